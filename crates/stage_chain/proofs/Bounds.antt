-- Runs of a row's samples lie within those of a plane.
use Rattle.std.proofs.Common.{ℕ, ◌+◌, ◌-◌, ◌*◌, ◌<◌, ◌≤◌, arith, mul-le-mul_right}

pub run_within : (rows cols planes row left right : ℕ) → row < rows → left ≤ right → right ≤ cols
    → (row * cols + left) * planes + (right - left) * planes ≤ rows * cols * planes
run_within rows cols planes row left right within order inside =
    let line : (row + 1) * cols ≤ rows * cols = mul-le-mul_right cols (omega arith) in
    let run : (row * cols + left) + (right - left) ≤ rows * cols = omega (arith, line) in
    let all : ((row * cols + left) + (right - left)) * planes ≤ rows * cols * planes = mul-le-mul_right planes run in
    omega (arith, all)
