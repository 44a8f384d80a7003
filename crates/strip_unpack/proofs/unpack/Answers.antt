use Rattle.std.specs.Fork.{slice_chunk}
use Rattle.std.proofs.Common.{ℕ, List, ◌≡◌, ◌+◌, ◌-◌, ◌*◌, ◌≤◌, length, drop, take, below_more, length-drop, sym, ◌∙◌}
use Rattle.std.proofs.Common.{subst, arith}
use Rattle.std.proofs.lemmas.List.{length-take}
use Rattle.std.proofs.Math.Nat.{mul-le-mul_left, mul-le-mul_right}
use Rattle.strip_unpack.specs.Samples.{Spells, row_bytes, sample_bits}
use Rattle.strip_unpack.proofs.Formula.{formula_alone}
use Rattle.strip_unpack.proofs.Rows.{part_before, part_written}
use Rattle.strip_unpack.proofs.unpack.Goals as goal

pub overflow_mul-needed : goal.overflow_mul-needed
overflow_mul-needed c =
    let n = c.div_ceil-row_length.result in
    let most_bits : c.args.cols * c.args.depth ≤ c.args.cols * 16 = mul-le-mul_left c.args.cols c.requires.high in
    let row : n ≤ 2 * c.args.cols = omega arith in
    let most : c.args.rows * n ≤ c.args.rows * (2 * c.args.cols) = mul-le-mul_left c.args.rows row in
    omega arith

pub loop-row-preserved : goal.loop-row-preserved
loop-row-preserved c =
    let l = c.loop-row in
    let n = c.div_ceil-row_length.result in
    let cols = c.args.cols in
    let row = c.unpack_row.new.out in
    let f = sample_bits c.args.order c.args.depth in
    let bytes = c.args.bytes.now in
    let within : (l.row + 1) * cols ≤ c.args.rows * cols = mul-le-mul_right cols (omega arith) in
    let room : l.row * cols ≤ length l.out = omega arith in
    let long : length row ≡ cols = simp (length-take, length-drop) at c.unpack_row.auto.out ∙ omega arith in
    let length_is : l.row * n + n - l.row * n ≡ n = omega arith in
    let P : ℕ → ℕ → Type 0 = λ k m. Spells f c.args.depth row (take m (drop (l.row * n) bytes)) in
    below_more _ _
    (λ k h. let Q : List ℕ → Type 0 = λ xs. Spells f c.args.depth xs (slice_chunk bytes n k) in
    subst Q (sym (part_before cols l.row _ k l.out row h room)) (l.invariant k h))
    (let Q : List ℕ → Type 0 = λ xs. Spells f c.args.depth xs (slice_chunk bytes n l.row) in
    subst Q (sym (part_written cols l.row _ l.out row long room)) (subst (P 0) length_is c.unpack_row.ensures))

pub returns-clause-ok : goal.returns-clause-ok
returns-clause-ok c =
    let l = c.loop-row in
    let depth = c.args.depth in
    let bytes = c.args.bytes.now in
    let width : c.div_ceil-row_length.result ≡ row_bytes depth c.args.cols = omega arith in
    let P : ℕ → Type 0 = λ w. c.args.rows * w ≤ length bytes in
    formula_alone c.args.order depth c.args.rows c.args.cols bytes l.out c.requires.high
    (subst P width c.if-bytes-needed.false) (record {
      count = omega arith;
      row = λ k h.
          let Q : ℕ → Type 0 = λ w. Spells (sample_bits c.args.order depth) depth (slice_chunk l.out c.args.cols k)
          (slice_chunk bytes w k) in
          subst Q width (l.invariant k (omega arith));
    })
