-- How the faults of a stage are faults of the plan.
use Rattle.linearise.specs.declared.fault.LineariseFault.{LineariseFault}
use Rattle.linearise.specs.declared.fault.LineariseFault.TheVariants as linear
use Rattle.dev_stages.specs.declared.fault.PlanFault.{PlanFault}
use Rattle.dev_stages.specs.declared.fault.PlanFault.TheVariants as fault

-- the fault of levels that can't be made linear
abbrev pub linear_fault : LineariseFault → PlanFault
linear_fault linear.Levels = fault.Levels
linear_fault linear.Memory = fault.Memory
