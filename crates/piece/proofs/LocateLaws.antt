-- The piece of a sheet from the reader's answer and from what is found of the root, and the place of its record. Assumes nothing.
use mathlib.Core.List.{List}
use mathlib.Core.Path.{◌≡◌, refl, sym, ap, ◌∙◌, subst}
use Prim.Native.Nat.{ℕ, ◌+◌, ◌-◌, ◌≤◌}
use native.Mathlib.Omega.{arith}
use lib.ListN.{length, take, drop}
use Rattle.program.specs.Layout.{types_of}
use Rattle.program.specs.Screening.{Screening, unless_found}
use Rattle.program.specs.Decoding.{decoding}
use Rattle.program.specs.Answers.{decoded_model}
use Rattle.program.specs.declared.answer.Refusal.{Refusal}
use Rattle.std.specs.Prelude.{Result, Ok, Err, Some}
use Rattle.program.specs.declared.records.Counts.{Counts}
use Rattle.accessors.specs.Internal.{FormedSheet}
use Rattle.subtyping.specs.Known.{Known}
use Rattle.places.specs.Internal.{AtRoot}
use Rattle.places.proofs.PlaceLaws.{root_place_ready}
use Rattle.subterms.specs.Smallest.{Piece, unreadable, piece_of, record_length, record_of}
use Rattle.subterms.proofs.Theorems.{record_inside, offset_most, length_most}
use Rattle.smallest.specs.Internal.{Visitable}
use Rattle.piece.specs.Answers.{LocatedAs}
use Rattle.piece.specs.Internal.{piece_in}
use Rattle.piece.specs.declared.Located.{Located}
use Rattle.places.specs.declared.Place.{Place}

-- ---- the reader's answer
module _ (s : List ℕ) {d : Result Counts Refusal} (p : decoded_model d ≡ decoding s) where
  pub unreadable_located : {f : Refusal} → d ≡ Err f → {r : Located} → r ≡ record { piece = Err f; at = 0; len = 0 } → LocatedAs s (piece_of s) r
  unfolding piece_of
  unreadable_located {f} e q =
      subst (LocatedAs s (piece_of s)) (sym q)
      (subst (λ (a : Piece). LocatedAs s a (record { piece = Err f; at = 0; len = 0 }))
      (ap (λ (x : Screening). unless_found unreadable x λ _. piece_in s) (sym (ap decoded_model e) ∙ p))
      (record { piece_is = refl; at_is = refl; len_is = refl }))

  pub readable_located : {c : Counts} → d ≡ Ok c → {r : Located} → LocatedAs s (piece_in s) r → LocatedAs s (piece_of s) r
  unfolding piece_of
  readable_located e {r} h =
      subst (λ (a : Piece). LocatedAs s a r) (ap (λ (x : Screening). unless_found unreadable x λ _. piece_in s) (sym (ap decoded_model e) ∙ p)) h

-- ---- a readable sheet
module _ {s : List ℕ} {c : Counts} (S : FormedSheet s c) {y : Place} (at-root : AtRoot c y) where
  pub root_visitable : {l : List ℕ} → Known (types_of s) l → Visitable s c l (Some y)
  root_visitable k = record { ready = root_place_ready S at-root; known = k }

-- ---- the record
module _ (s : List ℕ) {r : Located} (h : LocatedAs s (piece_of s) r) where
  -- a place of at most 65,535, and eight bytes
  pub ends_near : r.at + r.len ≤ 65543
  ends_near = omega (arith, h.at_is, h.len_is, offset_most s, length_most s)

  pub ends_inside : r.at + r.len ≤ length s
  ends_inside = omega (arith, h.at_is, h.len_is, record_inside s)

  pub record_is : {x : List ℕ} → x ≡ take (r.at + r.len - r.at) (drop r.at s) → x ≡ record_of s (piece_of s)
  record_is q =
      let e : r.at + r.len - r.at ≡ record_length (piece_of s) = omega (arith, h.len_is) in
      q ∙ λ i. take (e i) (drop (h.at_is i) s)
