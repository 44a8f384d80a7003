-- The greatest black level, by the places of the pattern.
use Rattle.std.proofs.Common.{◌≡◌, ℕ, zero, suc, ◌+◌, ◌*◌, ◌/◌, ◌%◌, ◌<◌, ◌≤◌, min, ℤ, pos, inl, inr, List, [], ◌∷◌}
use Rattle.std.proofs.Common.{length, get_or, map, true, false, cond, refl, ◌∙◌, ap, subst, sym, arith}
use Rattle.std.specs.Prelude.{◌+ℤ◌, ◌≤ℤ◌, int_lt}
use Rattle.std.specs.Int.{int_max}
use Rattle.std.specs.List.{range_with_len}
use Rattle.std.proofs.lemmas.Bool.{cases_lt}
use Rattle.std.proofs.lemmas.Int.{clamps, fold-int_max_bounds, fold-int_max_reached, ints}
use Rattle.std.proofs.lemmas.List.Elements.{All-from_get_or}
use Rattle.std.proofs.lemmas.List.FromFn.{length-map-range_with_len, get_or-map-range_with_len}
use Rattle.std.proofs.Math.Nat.{mod-eq_of_lt, mod-le}
use Rattle.std.proofs.lemmas.Nat.{div_below, div-mul-add, mod-mul-add, mod_below, mul-add-lt}
use Rattle.dng_tags.specs.Black.{across_at, black_at, greatest, greatest_black, row_by_row}
use Rattle.dng_tags.specs.inner.Span.{FallsBefore, FallsOn, IsGreatest, IsGreatestBlack, IsReached, IsReachedBlack}
use Rattle.dng_tags.specs.declared.record.Levels.{Levels}

-- what holds of two numbers holds of the greater one
pub of_greater : (P : ℤ → Type 0) (x y : ℤ) → P x → P y → P (int_max x y)
of_greater P x y one other = elim (int_lt y x) as (λ b. P (cond b x y)) [ true ↦ one | false ↦ other ]

-- the greatest over the numbers before a limit, and those at the limit
pub greatest_more : (count step limit : ℕ) (f : ℕ → ℤ) (m n : ℤ) → IsGreatest (FallsBefore count step limit) f m
    → IsGreatest (FallsOn count step limit) f n → IsGreatest (FallsBefore count step (limit + 1)) f (int_max m n)
greatest_more count step limit f m n before here = record {
  bound = λ k there.
      elim (cases_lt (k % step) limit) as (λ _. f k ≤ℤ int_max m n) [
        | inl below ↦ omega (arith, ints, clamps, before.bound k (record { within = there.within; place = below }))
        | inr above ↦ omega (
          arith,
          ints,
          clamps,
          here.bound k (record { within = there.within; place = omega (arith, there.place) }),
        )
      ];
  reached =
      let P : ℤ → Type 0 = λ value. IsReached (FallsBefore count step (limit + 1)) f value in
      of_greater P m n
      (record {
        at = before.reached.at;
        there = record {
          within = before.reached.there.within;
          place = omega (arith, before.reached.there.place);
        };
        same = before.reached.same;
      })
      (record {
        at = here.reached.at;
        there = record {
          within = here.reached.there.within;
          place = omega (arith, here.reached.there.place);
        };
        same = here.reached.same;
      });
}

pub greatest_first : (count step : ℕ) (f : ℕ → ℤ) (m : ℤ) → IsGreatest (FallsOn count step 0) f m
    → IsGreatest (FallsBefore count step 1) f m
greatest_first count step f m here = record {
  bound = λ k there. here.bound k (record { within = there.within; place = omega (arith, there.place) });
  reached = record {
    at = here.reached.at;
    there = record {
      within = here.reached.there.within;
      place = omega (arith, here.reached.there.place);
    };
    same = here.reached.same;
  };
}

-- the same for rows
pub black_more : (rows step limit cols : ℕ) (levels : Levels) (m n : ℤ)
    → IsGreatestBlack (FallsBefore rows step limit) levels cols m
    → IsGreatestBlack (FallsOn rows step limit) levels cols n
    → IsGreatestBlack (FallsBefore rows step (limit + 1)) levels cols (int_max m n)
black_more rows step limit cols levels m n before here = record {
  bound = λ r c there col.
      elim (cases_lt (r % step) limit) as (λ _. black_at levels r c ≤ℤ int_max m n) [
        | inl below ↦ omega (
          arith,
          ints,
          clamps,
          before.bound r c (record { within = there.within; place = below }) col,
        )
        | inr above ↦ omega (
          arith,
          ints,
          clamps,
          here.bound r c (record { within = there.within; place = omega (arith, there.place) }) col,
        )
      ];
  reached =
      let P : ℤ → Type 0 = λ value. IsReachedBlack (FallsBefore rows step (limit + 1)) levels cols value in
      of_greater P m n
      (record {
        row = before.reached.row;
        col = before.reached.col;
        there = record { within = before.reached.there.within; place = omega (arith, before.reached.there.place) };
        within = before.reached.within;
        same = before.reached.same;
      })
      (record {
        row = here.reached.row;
        col = here.reached.col;
        there = record {
          within = here.reached.there.within;
          place = omega (arith, here.reached.there.place);
        };
        within = here.reached.within;
        same = here.reached.same;
      });
}

pub black_first : (rows step cols : ℕ) (levels : Levels) (m : ℤ) → IsGreatestBlack (FallsOn rows step 0) levels cols m
    → IsGreatestBlack (FallsBefore rows step 1) levels cols m
black_first rows step cols levels m here = record {
  bound = λ r c there col. here.bound r c (record { within = there.within; place = omega (arith, there.place) }) col;
  reached = record {
    row = here.reached.row;
    col = here.reached.col;
    there = record { within = here.reached.there.within; place = omega (arith, here.reached.there.place) };
    within = here.reached.within;
    same = here.reached.same;
  };
}

-- a place of the pattern, and what the columns add that fall on it
pub place_greatest : (levels : Levels) (cols i j : ℕ) (black across : ℤ)
    → black ≡ get_or levels.black (i * levels.black_cols + j) (pos 0)
    → IsGreatest (FallsOn cols levels.black_cols j) (λ k. get_or levels.delta_h k (pos 0)) across
    → IsGreatest (FallsOn cols levels.black_cols j) (across_at levels i) (black +ℤ across)
place_greatest levels cols i j black across is most = record {
  bound = λ k there. rw (there.place, ← is) (omega (arith, ints, most.bound k there));
  reached = record {
    at = most.reached.at;
    there = most.reached.there;
    same = rw (most.reached.there.place, ← is, most.reached.same) refl;
  };
}

-- a row of the pattern, and what the rows add that fall on it
pub rows_greatest : (levels : Levels) (rows cols i limit : ℕ) (across down : ℤ) → limit ≡ min levels.black_cols cols
    → 1 ≤ levels.black_cols
    → IsGreatest (FallsBefore cols levels.black_cols limit) (across_at levels i) across
    → IsGreatest (FallsOn rows levels.black_rows i) (λ k. get_or levels.delta_v k (pos 0)) down
    → IsGreatestBlack (FallsOn rows levels.black_rows i) levels cols (across +ℤ down)
rows_greatest levels rows cols i limit across down is some most_across most_down = record {
  bound = λ r c there col.
      rw there.place
      (omega (
        arith,
        ints,
        most_across.bound c
            (record {
              within = col;
              place = omega (
                arith,
                mod_below c levels.black_cols (omega arith),
                mod-le c levels.black_cols,
              );
            }),
        most_down.bound r there,
      ));
  reached = record {
    row = most_down.reached.at;
    col = most_across.reached.at;
    there = most_down.reached.there;
    within = most_across.reached.there.within;
    same = rw (most_down.reached.there.place, most_across.reached.same, most_down.reached.same) refl;
  };
}

-- a number that none of a list passes, its greatest one doesn't pass either
greatest_le : (x : ℤ) (xs : List ℤ) (m : ℤ) → ((k : ℕ) → k < length (x ∷ xs) → get_or (x ∷ xs) k (pos 0) ≤ℤ m)
    → greatest (x ∷ xs) ≤ℤ m
greatest_le x xs m bound =
    let most : ℤ = greatest (x ∷ xs) in
    let P : ℤ → Type 0 = λ z. z ≤ℤ m in
    elim (fold-int_max_reached x xs most refl) as (λ _. most ≤ℤ m) [
      | inl first ↦ subst P (sym first) (bound 0 (omega arith))
      | inr later ↦ subst P later.2
          (All-from_get_or P xs (pos 0) (λ k within. bound (suc k) (omega arith)) later.0 most later.1)
    ]

-- a number that is an element of a list, and below no other one, is its greatest
pub greatest_is : (xs : List ℤ) (m : ℤ) → ((k : ℕ) → k < length xs → get_or xs k (pos 0) ≤ℤ m) → (at : ℕ)
    → at < length xs → get_or xs at (pos 0) ≡ m → greatest xs ≡ m
greatest_is [] m bound at within same = absurd (omega arith)
greatest_is (x ∷ xs) m bound zero within same =
    omega (arith, ints, greatest_le x xs m bound, (fold-int_max_bounds x xs (greatest (x ∷ xs)) refl).0)
greatest_is (x ∷ xs) m bound (suc at) within same =
    omega (
      arith,
      ints,
      greatest_le x xs m bound,
      (fold-int_max_bounds x xs (greatest (x ∷ xs)) refl).1 at (pos 0) (omega arith),
    )

-- the greatest black level of an area
pub greatest_black_is : (levels : Levels) (rows cols limit : ℕ) (m : ℤ) → limit ≡ min levels.black_rows rows
    → 1 ≤ levels.black_rows → 1 ≤ cols
    → IsGreatestBlack (FallsBefore rows levels.black_rows limit) levels cols m → greatest_black levels rows cols ≡ m
unfolding greatest_black row_by_row
greatest_black_is levels rows cols limit m is some some_cols most =
    let f : ℕ → ℤ = λ i. black_at levels (i / cols) (i % cols) in
    let count : length (map f (range_with_len 0 (rows * cols))) ≡ rows * cols =
    length-map-range_with_len f 0 (rows * cols) in
    let r = most.reached.row in
    let c = most.reached.col in
    let at_within : r * cols + c < rows * cols =
    omega (arith, mul-add-lt r cols c rows most.reached.there.within most.reached.within) in
    greatest_is (map f (range_with_len 0 (rows * cols))) m
    (λ k within.
    let here : k < rows * cols = omega arith in
    let row : k / cols < rows = div_below k cols rows (omega arith) here in
    rw (get_or-map-range_with_len f 0 (rows * cols) k k (pos 0) here (omega arith))
    (most.bound (k / cols) (k % cols)
    (record {
      within = row;
      place = omega (
        arith,
        mod_below (k / cols) levels.black_rows (omega arith),
        mod-le (k / cols) levels.black_rows,
      );
    })
    (mod_below k cols (omega arith))))
    (r * cols + c) (omega arith)
    (get_or-map-range_with_len f 0 (rows * cols) (r * cols + c) (r * cols + c) (pos 0) at_within (omega arith)
    ∙ (ap (λ row. black_at levels row ((r * cols + c) % cols)) (div-mul-add r cols c most.reached.within)
    ∙ (ap (λ col. black_at levels r col) (mod-mul-add r cols c most.reached.within) ∙ most.reached.same)))

-- no numbers at all are zeros
pub none_greatest : (deltas : List ℤ) (count step first : ℕ) → length deltas ≡ 0 → first < step → first < count
    → IsGreatest (FallsOn count step first) (λ k. get_or deltas k (pos 0)) (pos 0)
none_greatest [] count step first none place some = record {
  bound = λ k there. omega (arith, ints);
  reached = record {
    at = first;
    there = record { within = some; place = mod-eq_of_lt place };
    same = refl;
  };
}
none_greatest (x ∷ xs) count step first none place some = absurd (omega arith)
