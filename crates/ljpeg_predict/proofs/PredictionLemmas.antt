-- The predictions of a line's samples, within the list of all samples.
use Rattle.std.proofs.Common.{◌≡◌, ◌≢◌, ℕ, zero, suc, ◌+◌, ◌-◌, ◌*◌, ◌%◌, ◌^◌, ◌<◌, ◌≤◌, inl, inr, cond, ltb, pos, ◌+ℤ◌}
use Rattle.std.proofs.Common.{List, [], ◌∷◌, ◌++◌, length, get_or, sym, ap, ap₂, ◌∙◌, subst, arith, zero-add}
use Rattle.std.proofs.lemmas.Bool.{cases_lt, cond-true, cond-false, lt-ltb, le-ltb}
use Rattle.std.proofs.lemmas.List.{get_or_append_left, get_or-append-add}
use Rattle.std.proofs.lemmas.Nat.{mod-mul-add}
use Rattle.ljpeg_huffman.specs.Differences.{modulo}
use Rattle.ljpeg_predict.specs.inner.Lines.{IsFirstLine, IsLine, IsNextLine}
use Rattle.ljpeg_predict.specs.Prediction.{predicted, prediction}
use Rattle.ljpeg_predict.specs.Scans.{Scan, components, row_length}
use Rattle.ljpeg_predict.specs.declared.scan.Predictor.{Predictor}

-- the four cases of a prediction
pub prediction_start : (scan : Scan) (samples : List ℕ) (place : ℕ) → place < components scan
    → prediction scan samples place ≡ pos (2 ^ (scan.precision - 1))
unfolding prediction
prediction_start scan samples place h = cond-true _ _ _ (lt-ltb place (components scan) h)

pub prediction_left : (scan : Scan) (samples : List ℕ) (place : ℕ) → components scan ≤ place → place < row_length scan
    → prediction scan samples place ≡ pos (get_or samples (place - components scan) 0)
unfolding prediction
prediction_left scan samples place h k =
    cond-false _ _ _ (le-ltb place (components scan) h) ∙ cond-true _ _ _ (lt-ltb place (row_length scan) k)

pub prediction_above : (scan : Scan) (samples : List ℕ) (place : ℕ) → components scan ≤ place → row_length scan ≤ place
    → place % row_length scan < components scan
    → prediction scan samples place ≡ pos (get_or samples (place - row_length scan) 0)
unfolding prediction
prediction_above scan samples place h k l =
    cond-false _ _ _ (le-ltb place (components scan) h) ∙ cond-false _ _ _ (le-ltb place (row_length scan) k)
    ∙ cond-true _ _ _ (lt-ltb (place % row_length scan) (components scan) l)

pub prediction_inner : (scan : Scan) (samples : List ℕ) (place : ℕ) → components scan ≤ place → row_length scan ≤ place
    → components scan ≤ place % row_length scan
    → prediction scan samples place ≡ predicted scan.predictor (get_or samples (place - components scan) 0)
    (get_or samples (place - row_length scan) 0) (get_or samples (place - row_length scan - components scan) 0)
unfolding prediction
prediction_inner scan samples place h k l =
    cond-false _ _ _ (le-ltb place (components scan) h) ∙ cond-false _ _ _ (le-ltb place (row_length scan) k)
    ∙ cond-false _ _ _ (le-ltb (place % row_length scan) (components scan) l)

-- the first line
first_is : (scan : Scan) (line : List ℕ) (place : ℕ) → place < row_length scan
    → prediction scan line place ≡ cond (ltb place (components scan)) (pos (2 ^ (scan.precision - 1)))
    (pos (get_or line (place - components scan) 0))
first_is scan line place h =
    elim (cases_lt place (components scan)) [
      | inl less ↦ prediction_start scan line place less ∙ sym (cond-true _ _ _ (lt-ltb place (components scan) less))
      | inr more ↦ prediction_left scan line place more h ∙ sym (cond-false _ _ _ (le-ltb place (components scan) more))
    ]

pub first_line_of : (scan : Scan) (start step : ℕ) (above numbers line : List ℕ) → start ≡ 2 ^ (scan.precision - 1)
    → step ≡ components scan → length above ≡ 0 → length line ≡ row_length scan → IsFirstLine start step numbers line
    → IsLine scan above numbers line
first_line_of scan start step [] numbers line is comps none long first place h =
    let p = first_is scan line place (omega arith) in
    let expected : prediction scan line (0 + place) ≡ cond (ltb place step) (pos start)
    (pos (get_or line (place - step) 0)) =
    ap (prediction scan line) (zero-add place) ∙ p
    ∙ ap₂ (λ s c. cond (ltb place c) (pos s) (pos (get_or line (place - c) 0))) (sym is) (sym comps) in
    first place h ∙ ap (λ z. modulo (z +ℤ pos (get_or numbers place 0))) (sym expected)
first_line_of scan start step (x ∷ above) numbers line is comps none long first place h = absurd (omega arith)

-- a line below others
module _ (scan : Scan) (above slice line : List ℕ) (lines : ℕ) (some : 0 < components scan)
    (room : components scan ≤ row_length scan) (whole : length above ≡ suc lines * row_length scan) (slice_is : (j : ℕ)
    → j < row_length scan → get_or slice j 0 ≡ get_or above (length above - row_length scan + j) 0) (j : ℕ) (within :
    j < row_length scan) where
  abbrev row : ℕ
  row = row_length scan

  abbrev step : ℕ
  step = components scan

  abbrev all : List ℕ
  all = above ++ line

  abbrev here : ℕ
  here = length above + j

  long : row ≤ length above
  long = omega arith

  column : here % row ≡ j
  column = ap (λ n. (n + j) % row) whole ∙ mod-mul-add (suc lines) row j within

  above_is : get_or all (here - row) 0 ≡ get_or slice j 0
  above_is =
      let at : here - row ≡ length above - row + j = omega (arith, long) in
      let inside : here - row < length above = omega (arith, long) in
      get_or_append_left above line 0 (here - row) inside ∙ ap (λ k. get_or above k 0) at ∙ sym (slice_is j within)

  left_is : step ≤ j → get_or all (here - step) 0 ≡ get_or line (j - step) 0
  left_is h = let at : here - step ≡ length above + (j - step) =
      omega arith in ap (λ k. get_or all k 0) at ∙ get_or-append-add above line (j - step) 0

  corner_is : step ≤ j → get_or all (here - row - step) 0 ≡ get_or slice (j - step) 0
  corner_is h =
      let at : here - row - step ≡ length above - row + (j - step) = omega (arith, long) in
      let inside : here - row - step < length above = omega (arith, long) in
      get_or_append_left above line 0 (here - row - step) inside ∙ ap (λ k. get_or above k 0) at
      ∙ sym (slice_is (j - step) (omega arith))

  pub next_is : prediction scan all here ≡ cond (ltb j step) (pos (get_or slice j 0))
      (predicted scan.predictor (get_or line (j - step) 0) (get_or slice j 0) (get_or slice (j - step) 0))
  next_is =
      elim (cases_lt j step) [
        | inl less ↦ prediction_above scan all here (omega (arith, long)) (omega (arith, long)) (omega (arith, column))
            ∙ ap pos above_is ∙ sym (cond-true _ _ _ (lt-ltb j step less))
        | inr more ↦
            prediction_inner scan all here (omega (arith, long)) (omega (arith, long)) (omega (arith, column))
            ∙ ap (λ k. predicted scan.predictor k (get_or all (here - row) 0) (get_or all (here - row - step) 0))
            (left_is more)
            ∙ ap₂ (λ x y. predicted scan.predictor (get_or line (j - step) 0) x y) above_is (corner_is more)
            ∙ sym (cond-false _ _ _ (le-ltb j step more))
      ]

pub next_line_of : (scan : Scan) (predictor : Predictor) (step lines : ℕ) (above slice numbers line : List ℕ)
    → predictor ≡ scan.predictor → step ≡ components scan → 0 < step → step ≤ row_length scan
    → length above ≡ lines * row_length scan → length above ≢ 0 → length line ≡ row_length scan
    → ((j : ℕ) → j < row_length scan → get_or slice j 0 ≡ get_or above (length above - row_length scan + j) 0)
    → IsNextLine predictor step slice numbers line → IsLine scan above numbers line
next_line_of scan predictor step zero above slice numbers line same comps some room whole any long slice_is next place
    h = absurd (any (omega arith))
next_line_of scan predictor step (suc lines) above slice numbers line same comps some room whole any long slice_is next
    place h =
    let p = next_is scan above slice line lines (omega arith) (omega arith) whole slice_is place (omega arith) in
    let expected : prediction scan (above ++ line) (length above + place) ≡ cond (ltb place step)
    (pos (get_or slice place 0))
    (predicted scan.predictor (get_or line (place - step) 0) (get_or slice place 0)
    (get_or slice (place - step) 0)) = subst
    (λ c. prediction scan (above ++ line) (length above + place) ≡ cond (ltb place c) (pos (get_or slice place 0))
    (predicted scan.predictor (get_or line (place - c) 0) (get_or slice place 0) (get_or slice (place - c) 0)))
    (sym comps) p in
    next place h
    ∙ ap (λ p. modulo (cond (ltb place step) (pos (get_or slice place 0))
    (predicted p (get_or line (place - step) 0) (get_or slice place 0) (get_or slice (place - step) 0)) +ℤ pos
    (get_or numbers place 0))) same
    ∙ ap (λ z. modulo (z +ℤ pos (get_or numbers place 0))) (sym expected)

-- where there are lines, there is one
pub some_line : (lines row size : ℕ) → size ≡ lines * row → size ≢ 0 → row ≤ size
some_line zero row size e h = absurd (h (omega arith))
some_line (suc lines) row size e h = omega arith

-- a prediction rests on earlier samples alone
pub prediction_agrees : (scan : Scan) (xs ys : List ℕ) (place : ℕ) → 0 < components scan → 0 < row_length scan
    → ((k : ℕ) → k < place → get_or xs k 0 ≡ get_or ys k 0) → prediction scan xs place ≡ prediction scan ys place
prediction_agrees scan xs ys place some row same =
    elim (cases_lt place (components scan)) [
      | inl start ↦ prediction_start scan xs place start ∙ sym (prediction_start scan ys place start)
      | inr more ↦
          let left : get_or xs (place - components scan) 0 ≡ get_or ys (place - components scan) 0 =
          same (place - components scan) (omega arith) in
          elim (cases_lt place (row_length scan)) [
            | inl first ↦ prediction_left scan xs place more first ∙ ap pos left
                ∙ sym (prediction_left scan ys place more first)
            | inr later ↦
                let above : get_or xs (place - row_length scan) 0 ≡ get_or ys (place - row_length scan) 0 =
                same (place - row_length scan) (omega arith) in
                elim (cases_lt (place % row_length scan) (components scan)) [
                  | inl edge ↦ prediction_above scan xs place more later edge ∙ ap pos above
                      ∙ sym (prediction_above scan ys place more later edge)
                  | inr inner ↦
                      let corner : get_or xs (place - row_length scan - components scan) 0
                      ≡ get_or ys (place - row_length scan - components scan) 0 =
                      same (place - row_length scan - components scan) (omega arith) in
                      prediction_inner scan xs place more later inner
                      ∙ ap (λ k. predicted scan.predictor k (get_or xs (place - row_length scan) 0)
                      (get_or xs (place - row_length scan - components scan) 0)) left
                      ∙ ap₂ (λ x y. predicted scan.predictor (get_or ys (place - components scan) 0) x y) above corner
                      ∙ sym (prediction_inner scan ys place more later inner)
                ]
          ]
    ]
