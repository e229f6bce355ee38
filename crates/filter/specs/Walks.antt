-- What a filter and a walk stand for. Assumes nothing.
use Rattle.std.specs.Prelude.{ℕ, List}
use Rattle.rows.specs.Rows.{items_of}
use Rattle.filter.specs.declared.steps.Step.{Step}
use Rattle.filter.specs.declared.filters.Filter.{Filter}
use Rattle.filter.specs.declared.walks.Walk.{Walk}

-- the steps of a filter
abbrev pub steps_of : Filter → List Step
steps_of f = items_of f.steps

-- the codes of the open elements, the root first
abbrev pub path_of : Walk → List ℕ
path_of w = items_of w.path
