-- The two ways that a call's step ends once its first child is a function: the record that is read has the parts of the function's type. Assumes nothing.
use mathlib.Core.Bool.{Bool, true, false, ◌&&◌}
use mathlib.Core.List.{List}
use mathlib.Core.Path.{◌≡◌, sym, ap, ◌∙◌}
use Prim.Native.Nat.{ℕ}
use lib.Dec.{leb, ltb}
use Rattle.std.specs.Prelude.{Result, Ok}
use Rattle.privileges.specs.Sets.{union}
use Rattle.program.specs.Layout.{types_of}
use Rattle.program.specs.Records.{type_record}
use Rattle.program.specs.declared.records.Counts.{Counts}
use Rattle.program.specs.declared.records.TypeRecord.{TypeRecord}
use Rattle.typing.specs.Subtyping.{subtype}
use Rattle.typing.specs.Checking.{typed, fault, require}
use Rattle.typing.specs.declared.answer.Fault.{Fault}
use Rattle.typing.specs.declared.answer.Typed.{Typed}
use Rattle.accessors.specs.Internal.{FormedSheet}
use Rattle.subtyping.specs.Laws.Records.{function_is, TypeParts, type_parts}
use Rattle.rules.specs.Inference.{inferred_model}
use Rattle.rules.specs.Steps.{call_step}

module _ {s : List ℕ} {c : Counts} (S : FormedSheet s c) {j : Result Typed Fault} {x : Typed} (e : j ≡ Ok x) (t φ P : ℕ)
    {b : Bool} (hb : b ≡ (leb 2 φ && ltb φ c.types)) (h : b ≡ true) {f : TypeRecord} (hf : f ≡ type_record s c φ)
    {a : Bool} (ha : a ≡ subtype (types_of s) x.ty f.arg) where
  is_fun : (types_of s).is_fun φ ≡ true
  is_fun = sym (function_is S φ hb) ∙ h

  p : TypeParts s φ f
  p = type_parts S φ is_fun hf

  fits : subtype (types_of s) x.ty ((types_of s).arg φ) ≡ a
  fits = sym (ha ∙ ap (subtype (types_of s) x.ty) p.arg_is)

  pub call_unfit : a ≡ false → fault 25 t ≡ call_step (types_of s) t φ P (inferred_model j)
  unfolding call_step
  call_unfit g = rw e (λ i. require (sym is_fun i) 24 t
      (require (sym (fits ∙ g) i) 25 t (typed ((types_of s).res φ) (union ((types_of s).latent φ) (union P x.needs)))))

  pub call_fits : a ≡ true → {K L : ℕ} → K ≡ union P x.needs → L ≡ union f.latent K → typed f.res L ≡ call_step (types_of s) t φ P (inferred_model j)
  unfolding call_step
  call_fits g k l =
      rw (e, l, k)
      (λ i. require (sym is_fun i) 24 t (require (sym (fits ∙ g) i) 25 t (typed (p.res_is i) (union (p.latent_is i) (union P x.needs)))))
