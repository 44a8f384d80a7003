-- There is exactly one list of samples to a list of differences.
use Rattle.std.proofs.Common.{◌≡◌, ℕ, zero, suc, ◌+◌, ◌*◌, ◌<◌, ◌≤◌, inl, inr, ℤ, pos, ◌+ℤ◌, List, [], ◌∷◌, ◌++◌}
use Rattle.std.proofs.Common.{length, get_or, refl, sym, ap, ap₂, ◌∙◌, subst, arith, append_assoc, append-nil}
use Rattle.std.proofs.Common.{length-append}
use Rattle.std.proofs.lemmas.Bool.{cases_lt}
use Rattle.std.proofs.lemmas.List.{ext_get_or, get_or-append-add, get_or_append_left, get_or_past}
use Rattle.ljpeg_huffman.specs.Differences.{modulo}
use Rattle.ljpeg_predict.specs.Decoded.{rebuilt_behind}
use Rattle.ljpeg_predict.specs.Prediction.{IsRebuilt, prediction}
use Rattle.ljpeg_predict.specs.Scans.{Scan, components, row_length}
use Rattle.ljpeg_predict.proofs.PredictionLemmas.{prediction_agrees}

-- a line with samples has components
some_component : (columns n : ℕ) → 0 < columns * n → 0 < n
some_component columns zero h = absurd (omega arith)
some_component columns (suc n) h = omega arith

module _ (scan : Scan) (width : 0 < row_length scan) where
  abbrev some : 0 < components scan
  some = some_component scan.columns (components scan) width

  -- two lists agree below each place
  agree : (differences : List ℤ) (xs ys : List ℕ) → IsRebuilt scan differences xs → IsRebuilt scan differences ys
      → (n k : ℕ) → k < n → get_or xs k 0 ≡ get_or ys k 0
  agree differences xs ys rx ry zero k h = absurd (omega arith)
  agree differences xs ys rx ry (suc n) k h =
      let before = agree differences xs ys rx ry n in
      elim (cases_lt k n) [
        | inl less ↦ before k less
        | inr more ↦
            let below : (j : ℕ) → j < k → get_or xs j 0 ≡ get_or ys j 0 = λ j g. before j (omega arith) in
            elim (cases_lt k (length xs)) [
              | inl within ↦ rx.each k within
                  ∙ ap (λ p. modulo (p +ℤ get_or differences k (pos 0)))
                  (prediction_agrees scan xs ys k some width below)
                  ∙ sym (ry.each k (omega (arith, rx.lengths, ry.lengths)))
              | inr past ↦ get_or_past xs k 0 past ∙ sym (get_or_past ys k 0 (omega (arith, rx.lengths, ry.lengths)))
            ]
      ]

  pub one_list_of_samples : (differences : List ℤ) (xs ys : List ℕ) → IsRebuilt scan differences xs
      → IsRebuilt scan differences ys → xs ≡ ys
  one_list_of_samples differences xs ys rx ry =
      ext_get_or 0 xs ys (rx.lengths ∙ sym ry.lengths) (λ k h. agree differences xs ys rx ry (suc k) k (omega arith))

  -- one more sample
  abbrev next : List ℕ → ℤ → ℕ
  next samples difference = modulo (prediction scan samples (length samples) +ℤ difference)

  more : (done : List ℤ) (samples : List ℕ) (difference : ℤ) → IsRebuilt scan done samples
      → IsRebuilt scan (done ++ difference ∷ []) (samples ++ next samples difference ∷ [])
  more done samples difference r =
      let all = samples ++ next samples difference ∷ [] in
      let same : (k : ℕ) → k ≤ length samples → prediction scan all k ≡ prediction scan samples k =
      λ k h. prediction_agrees scan all samples k some width
      (λ j g. get_or_append_left samples (next samples difference ∷ []) 0 j (omega arith)) in
      let size : length all ≡ length samples + 1 = length-append samples (next samples difference ∷ []) in
      record {
        lengths = size ∙ ap (λ n. n + 1) r.lengths ∙ sym (length-append done (difference ∷ []));
        each = λ k h. elim (cases_lt k (length samples)) [
          | inl less ↦
              let value : get_or (done ++ difference ∷ []) k (pos 0) ≡ get_or done k (pos 0) =
              get_or_append_left done (difference ∷ []) (pos 0) k (omega (arith, r.lengths)) in
              get_or_append_left samples (next samples difference ∷ []) 0 k less ∙ r.each k less
              ∙ ap₂ (λ p v. modulo (p +ℤ v)) (sym (same k (omega arith))) (sym value)
          | inr far ↦
              let last : k ≡ length samples = omega (arith, size) in
              let end : length samples + 0 ≡ length samples = omega arith in
              let here : get_or all (length samples) 0 ≡ next samples difference =
              sym (ap (λ n. get_or all n 0) end) ∙ get_or-append-add samples (next samples difference ∷ []) 0 0 in
              let value : get_or (done ++ difference ∷ []) (length samples) (pos 0) ≡ difference =
              sym (ap (λ n. get_or (done ++ difference ∷ []) n (pos 0)) end)
              ∙ ap (λ n. get_or (done ++ difference ∷ []) (n + 0) (pos 0)) r.lengths
              ∙ get_or-append-add done (difference ∷ []) 0 (pos 0) in
              subst (λ (n : ℕ). get_or all n 0 ≡ modulo
              (prediction scan all n +ℤ get_or (done ++ difference ∷ []) n (pos 0))) (sym last)
              (here ∙ ap₂ (λ p v. modulo (p +ℤ v)) (sym (same (length samples) (omega arith))) (sym value))
        ];
      }

  -- the samples that are rebuilt behind others
  pub rebuilt_behind-is : (differences done : List ℤ) (samples : List ℕ) → IsRebuilt scan done samples
      → IsRebuilt scan (done ++ differences) (rebuilt_behind scan samples differences)
  unfolding rebuilt_behind
  rebuilt_behind-is [] done samples r = subst (λ ds. IsRebuilt scan ds samples) (sym (append-nil done)) r
  rebuilt_behind-is (d ∷ differences) done samples r =
      subst (λ ds. IsRebuilt scan ds (rebuilt_behind scan (samples ++ next samples d ∷ []) differences))
      (append_assoc done (d ∷ []) differences)
      (rebuilt_behind-is differences (done ++ d ∷ []) (samples ++ next samples d ∷ []) (more done samples d r))

  pub rebuilt_is : (differences : List ℤ) → IsRebuilt scan differences (rebuilt_behind scan [] differences)
  rebuilt_is differences = rebuilt_behind-is differences [] []
      (record { lengths = refl; each = λ k h. absurd (omega arith) })

  pub some_list_of_samples : (differences : List ℤ) → (samples : List ℕ) × IsRebuilt scan differences samples
  some_list_of_samples differences = (rebuilt_behind scan [] differences, rebuilt_is differences)
