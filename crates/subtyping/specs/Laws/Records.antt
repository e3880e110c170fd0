-- What is_function and type_record tell of a sheet's type. Assumes nothing.
use Rattle.std.specs.Prelude.{Bool, true, ◌&&◌, List, ◌≡◌, ℕ, leb, ltb}
use Rattle.std.proofs.Common.{ap, ◌∙◌}
use Rattle.program.specs.Layout.{types_of}
use Rattle.program.specs.Records.{type_record}
use Rattle.program.specs.declared.records.Counts.{Counts}
use Rattle.program.specs.declared.records.TypeRecord.{TypeRecord}
use Rattle.program.proofs.Laws.Types.{function_type}
use Rattle.program.proofs.Laws.Records.{type_is}
use Rattle.accessors.specs.Internal.{FormedSheet}

-- the record of a function type has the parts that the definitions name
pub record TypeParts (s : List ℕ) (t : ℕ) (f : TypeRecord) : Type 0 where
  pub arg_is : f.arg ≡ (types_of s).arg t
  pub res_is : f.res ≡ (types_of s).res t
  pub latent_is : f.latent ≡ (types_of s).latent t

module _ {s : List ℕ} {c : Counts} (S : FormedSheet s c) (t : ℕ) where
  pub function_is : {b : Bool} → b ≡ (leb 2 t && ltb t c.types) → b ≡ (types_of s).is_fun t
  function_is h = h ∙ ap (λ (n : ℕ). leb 2 t && ltb t n) S.counts.types_are

  pub type_parts : {f : TypeRecord} → (types_of s).is_fun t ≡ true → f ≡ type_record s c t → TypeParts s t f
  type_parts h p =
      let q = p ∙ type_is s S.well_formed c S.counts t (function_type s S.well_formed t h).inside in
      record { arg_is = ap (λ (f : TypeRecord). f.arg) q; res_is = ap (λ (f : TypeRecord). f.res) q; latent_is = ap (λ (f : TypeRecord). f.latent) q }
