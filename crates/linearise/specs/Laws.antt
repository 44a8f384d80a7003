-- Laws of linear values as a stage: this project's own.
use Rattle.std.proofs.Common.{ℕ, ap}
use Rattle.plane_view.specs.declared.Rect.{Rect}
use Rattle.stage_core.specs.Stages.{RestsOn}
use Rattle.linearise.specs.Linear.{by_table, linear_at}
use Rattle.linearise.specs.Parameters.{Parameters, black_of, linear_of}

-- a linear value rests on the sample of its place
pub linear_rests : (s : Parameters) (planes : ℕ) (rect : Rect) → RestsOn (linear_of s) planes rect planes rect
linear_rests s planes rect = record {
  same = λ f g agree r c p pixel plane. ap (λ v. linear_at s.span (black_of s r c) (by_table s.table v))
      (agree r c p pixel plane);
}
