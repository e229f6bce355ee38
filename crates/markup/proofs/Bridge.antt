-- The table over classes is the machine over bytes. Assumes nothing.
use Rattle.std.proofs.Common.{◌≡◌, ℕ, Bool, true, false, cond, refl, ap, ◌∙◌}
use Rattle.markup.specs.declared.tags.Class.{Class}
use Rattle.markup.specs.declared.tags.Outcome.{Outcome}
use Rattle.markup.specs.declared.tags.Tag.{Tag}
use Rattle.markup.specs.declared.tags.Tag.TheVariants as T
use Rattle.markup.specs.Tags.{after}
use Rattle.markup.specs.Classes.{class_of, Known, table}
use Rattle.markup.specs.Runs.{move_of, standing}
use Rattle.markup.proofs.Known.{known}

pushed : (p : Bool) (x y : Outcome) → move_of (cond p x y) ≡ cond p (move_of x) (move_of y)
pushed true x y = refl
pushed false x y = refl

bridge : (t : Tag) (k : Class) (b : ℕ) → Known k b → move_of (table t k) ≡ after (standing t) b
bridge T.Name k b h = simp (h.name, h.gap, h.b47, h.b62, pushed)
bridge T.Gap k b h = simp (h.start, h.gap, h.b47, h.b62, pushed)
bridge T.Word k b h = simp (h.name, h.gap, h.b61, pushed)
bridge T.Wait k b h = simp (h.gap, h.b61, pushed)
bridge T.Value k b h = simp (h.gap, h.b39, h.b34, pushed)
bridge T.InSingle k b h = simp (h.b39, h.b60, pushed)
bridge T.InDouble k b h = simp (h.b34, h.b60, pushed)
bridge T.Ended k b h = simp (h.gap, h.b47, h.b62, pushed)
bridge T.Slash k b h = simp (h.b62, pushed)
bridge T.EndFirst k b h = simp (h.start, pushed)
bridge T.EndName k b h = simp (h.name, h.gap, h.b62, pushed)
bridge T.EndGap k b h = simp (h.gap, h.b62, pushed)

pub row_after : (t : Tag) (b : ℕ) (o : Outcome) → o ≡ table t (class_of b) → move_of o ≡ after (standing t) b
row_after t b o e = ap move_of e ∙ bridge t (class_of b) b (known b)
