-- The classes of bytes, and the table of the code's machine. Assumes nothing.
use Rattle.std.specs.Prelude.{◌≡◌, ℕ, Bool, true, false, cond, ◌||◌, ◌==◌, nat_eq}
use Rattle.vocabulary.specs.Names.{between}
use Rattle.markup.specs.Bytes.{name_start, name_byte, white}
use Rattle.markup.specs.declared.tags.Class.{Class}
use Rattle.markup.specs.declared.tags.Class.TheVariants as K
use Rattle.markup.specs.declared.tags.Outcome.{Outcome}
use Rattle.markup.specs.declared.tags.Outcome.TheVariants.{GoesOn, Ends, Misfit}
use Rattle.markup.specs.declared.tags.Tag.{Tag}
use Rattle.markup.specs.declared.tags.Tag.TheVariants as T
use Rattle.markup.specs.declared.tags.TagKind.TheVariants as E

-- the class of a byte
abbrev pub class_of : ℕ → Class
class_of b =
    cond (between 97 122 b || (between 65 90 b || (b == 95 || b == 58))) K.Start
    (cond (between 48 57 b || (b == 45 || b == 46)) K.Inner
    (cond (b == 32 || (b == 9 || (b == 13 || b == 10))) K.White
    (cond (b == 61) K.Equals
    (cond (b == 39) K.Single
    (cond (b == 34) K.Double
    (cond (b == 47) K.Slash
    (cond (b == 62) K.Close
    (cond (b == 60) K.Open K.Other))))))))

-- begins a name
abbrev pub start_k : Class → Bool
start_k K.Start = true
start_k _ = false

-- goes on in a name
abbrev pub name_k : Class → Bool
name_k K.Start = true
name_k K.Inner = true
name_k _ = false

-- is white space
abbrev pub white_k : Class → Bool
white_k K.White = true
white_k _ = false

-- is `=`
abbrev pub equals_k : Class → Bool
equals_k K.Equals = true
equals_k _ = false

-- is `'`
abbrev pub single_k : Class → Bool
single_k K.Single = true
single_k _ = false

-- is `"`
abbrev pub double_k : Class → Bool
double_k K.Double = true
double_k _ = false

-- is `/`
abbrev pub slash_k : Class → Bool
slash_k K.Slash = true
slash_k _ = false

-- is `>`
abbrev pub close_k : Class → Bool
close_k K.Close = true
close_k _ = false

-- is `<`
abbrev pub open_k : Class → Bool
open_k K.Open = true
open_k _ = false

-- what the class of a byte tells
pub record Known (k : Class) (b : ℕ) : Type 0 where
  pub start : name_start b ≡ start_k k
  pub name : name_byte b ≡ name_k k
  pub gap : white b ≡ white_k k
  pub b61 : nat_eq b 61 ≡ equals_k k
  pub b39 : nat_eq b 39 ≡ single_k k
  pub b34 : nat_eq b 34 ≡ double_k k
  pub b47 : nat_eq b 47 ≡ slash_k k
  pub b62 : nat_eq b 62 ≡ close_k k
  pub b60 : nat_eq b 60 ≡ open_k k

-- behind a name, a gap or a value of a start tag
abbrev pub leave_k : Class → Outcome
leave_k k = cond (white_k k) (GoesOn T.Gap) (cond (slash_k k) (GoesOn T.Slash) (cond (close_k k) (Ends E.Opening) Misfit))

-- behind the name of an attribute
abbrev pub wait_k : Class → Outcome
wait_k k = cond (white_k k) (GoesOn T.Wait) (cond (equals_k k) (GoesOn T.Value) Misfit)

-- behind the name of an end tag
abbrev pub end_k : Class → Outcome
end_k k = cond (white_k k) (GoesOn T.EndGap) (cond (close_k k) (Ends E.Closing) Misfit)

-- the machine over classes
abbrev pub table : Tag → Class → Outcome
table T.Name k = cond (name_k k) (GoesOn T.Name) (leave_k k)
table T.Gap k = cond (start_k k) (GoesOn T.Word) (leave_k k)
table T.Word k = cond (name_k k) (GoesOn T.Word) (wait_k k)
table T.Wait k = wait_k k
table T.Value k = cond (white_k k) (GoesOn T.Value) (cond (single_k k) (GoesOn T.InSingle) (cond (double_k k) (GoesOn T.InDouble) Misfit))
table T.InSingle k = cond (single_k k) (GoesOn T.Ended) (cond (open_k k) Misfit (GoesOn T.InSingle))
table T.InDouble k = cond (double_k k) (GoesOn T.Ended) (cond (open_k k) Misfit (GoesOn T.InDouble))
table T.Ended k = leave_k k
table T.Slash k = cond (close_k k) (Ends E.Empty) Misfit
table T.EndFirst k = cond (start_k k) (GoesOn T.EndName) Misfit
table T.EndName k = cond (name_k k) (GoesOn T.EndName) (end_k k)
table T.EndGap k = end_k k
