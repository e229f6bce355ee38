-- Which steps a filter may have. A code is a number from 0 to 512; 0 stands for every name outside the vocabulary,
-- so no step asks for it. Assumes nothing.
use Rattle.std.specs.Prelude.{ℕ, zero, suc, Bool, true, ◌&&◌, List, length, None, Option, nat_le}
use Rattle.std.specs.List.{list_all, slice_get}
use Rattle.vocabulary.specs.Limits.{most_names, most_steps}
use Rattle.filter.specs.declared.steps.Axis.TheVariants.{Child}
use Rattle.filter.specs.declared.steps.Test.{Test}
use Rattle.filter.specs.declared.steps.Test.TheVariants.{Any, Code}
use Rattle.filter.specs.declared.steps.Step.{Step}

-- a test that a filter may hold
abbrev pub is_test : Test → Bool
is_test Any = true
is_test (Code c) = nat_le 1 c && nat_le c most_names

abbrev pub are_tests : List Step → Bool
are_tests ss = list_all (λ s. is_test s.test) ss

-- the steps are a filter's: one to eight, with tests that a filter may hold
abbrev pub is_filter : List Step → Bool
is_filter ss = (nat_le 1 (length ss) && nat_le (length ss) most_steps) && are_tests ss

-- `/*`, the step of a fresh filter
abbrev pub any_child : Step
any_child = record { axis = Child; test = Any }

-- step k, counted from 1
abbrev pub step_at : List Step → ℕ → Option Step
step_at ss zero = None
step_at ss (suc k) = slice_get ss k
