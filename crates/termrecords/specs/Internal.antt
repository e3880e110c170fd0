-- What the contracts of the functions that look at term records for the decoder say. No reader of the public promise needs this file.
use Rattle.std.specs.Prelude.{Bool, true, Option, ◌&&◌, List, ℕ, ◌<◌, leb, ltb, eqb}
use Rattle.std.specs.Bool.{then_some}
use Rattle.program.specs.Limits.{max_privilege}
use Rattle.program.specs.Layout.{terms, kind_byte, first, second, third}
use Rattle.program.specs.Formats.{Part, unused, flag, any_number, privilege, principal, channel, function_type, child, body_child}
use Rattle.program.specs.Formats.{Kind, Boolean, Number, Variable, Function, Letrec, Call, If, Check, Enable, Sign, Test, Sum, Difference, Less, Post, kind_of, format}
use Rattle.program.specs.Decoding.{term_ok}
use Rattle.program.specs.declared.records.Counts.{Counts}
use Rattle.program.specs.declared.records.TermRecord.{TermRecord}
use Rattle.accessors.specs.Internal.{Laid}
use Rattle.termrecords.specs.declared.Shape.{Shape}
use Rattle.termrecords.specs.declared.Shape.TheVariants.{Leaf, One, Two, Three, Function as FunctionShape, Letrec as LetrecShape}

-- a term of a sheet with these counts
pub record LaidTerm (s : List ℕ) (c : Counts) (t : ℕ) : Type 0 where
  pub laid : Laid s c
  pub inside : t < terms s

-- `part_ok` by the counts
abbrev pub part_in : Counts → (t : ℕ) → Part → (value : ℕ) → Bool
part_in c t unused x = eqb x 0
part_in c t flag x = leb x 1
part_in c t any_number x = true
part_in c t privilege x = leb x max_privilege
part_in c t principal x = ltb x c.principals
part_in c t channel x = ltb x c.channels
part_in c t function_type x = leb 2 x && ltb x c.types
part_in c t child x = ltb x t
part_in c t body_child x = ltb x t

abbrev pub record_ok : Counts → (t kind small first second third : ℕ) → Bool
record_ok c t k x a b d =
    leb k 14 && part_in c t (format (kind_of k)).small x && part_in c t (format (kind_of k)).first a && part_in c t (format (kind_of k)).second b
    && part_in c t (format (kind_of k)).third d

-- the children of each kind
abbrev pub kind_shape : Kind → (first second third : ℕ) → Shape
kind_shape Boolean a b d = Leaf
kind_shape Number a b d = Leaf
kind_shape Variable a b d = Leaf
kind_shape Function a b d = FunctionShape b
kind_shape Letrec a b d = LetrecShape b d
kind_shape Call a b d = Two a b
kind_shape If a b d = Three a b d
kind_shape Check a b d = One a
kind_shape Enable a b d = One a
kind_shape Sign a b d = One a
kind_shape Test a b d = Two a b
kind_shape Sum a b d = Two a b
kind_shape Difference a b d = Two a b
kind_shape Less a b d = Two a b
kind_shape Post a b d = One a

-- of a record that is wrong, none
abbrev pub shape_from : Counts → (t kind small first second third : ℕ) → Option Shape
shape_from c t k x a b d = then_some (record_ok c t k x a b d) (kind_shape (kind_of k) a b d)

unfoldable pub shape_of : Counts → (t : ℕ) → TermRecord → Option Shape
shape_of c t r = shape_from c t r.kind r.small r.first r.second r.third

unfoldable pub shape_at : List ℕ → (t : ℕ) → Option Shape
shape_at s t = then_some (term_ok s t) (kind_shape (kind_of (kind_byte s t)) (first s t) (second s t) (third s t))
