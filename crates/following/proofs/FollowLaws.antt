-- The list that the loop writes: the first terms of the chain, and zeros after them. Assumes nothing.
use mathlib.Core.List.{List, [], ◌∷◌, ◌++◌, map, append_assoc, append-nil}
use mathlib.Core.Option.{Option}
use mathlib.Core.Path.{◌≡◌, refl, sym, ap, ◌∙◌, subst}
use Prim.Native.Nat.{ℕ, zero, suc, ◌+◌, ◌*◌, ◌-◌, ◌<◌}
use native.Mathlib.Omega.{arith}
use lib.ListN.{length, take, set, replicate, length-append}
use lib.Seq.{set-append_seam, take_at}
use Rattle.program.specs.Limits.{max_types, max_nesting}
use Rattle.program.specs.Layout.{authority, types_of}
use Rattle.program.specs.declared.records.Counts.{Counts}
use Rattle.subtyping.proofs.KnownLaws.{known_none}
use Rattle.typing.specs.Places.{Placed, placed_number, root_of}
use Rattle.typing.proofs.Laws.Places.{tree_number}
use Rattle.chains.specs.Explaining.{needs, next, chain_from, chain, chain_of, explained}
use Rattle.chains.specs.Answers.{ExplainedAs}
use Rattle.places.specs.Internal.{placed_at, AtRoot, Child}
use Rattle.places.proofs.PlaceLaws.{root_place_ready, root_placed}
use Rattle.following.specs.Internal.{next_at, Following, Stepped, Followable}
use Rattle.places.specs.declared.Place.{Place}
use Rattle.std.specs.Prelude.{Some, None, Ok}

-- ---- so many terms are written, and of the chain's numbers those of `rest` follow, of which so many can be written that are left
abbrev numbers : List Placed → List ℕ
numbers l = map placed_number l

pub record Along (s : List ℕ) (p : ℕ) (terms : List ℕ) (rest : ℕ → List Placed) (len : ℕ) : Type 0 where
  done : List ℕ
  left : ℕ
  len_is : len ≡ length done
  room : len + left ≡ max_nesting
  terms_are : terms ≡ done ++ replicate left 0
  chain_is : numbers (chain_of s p) ≡ done ++ numbers (rest left)

module _ (s : List ℕ) (p : ℕ) where
  abbrev onward_from : Option Placed → ℕ → List Placed
  onward_from o k = chain_from (types_of s) (authority s) p o λ y. chain (types_of s) (authority s) p k y

  abbrev chain_from_lem : Placed → ℕ → List Placed
  chain_from_lem x k = chain (types_of s) (authority s) p k x

  -- nothing is written at first
  along_none : (terms : List ℕ) → terms ≡ replicate max_nesting 0 → Along s p terms (chain_from_lem (root_of s)) 0
  unfolding chain_of
  along_none terms e = record { done = []; left = max_nesting; len_is = refl; room = refl; terms_are = e; chain_is = refl }

  -- one term more
  along_more : {terms : List ℕ} (x : Placed) {len t : ℕ} → Along s p terms (chain_from_lem x) len → len < max_nesting → placed_number x ≡ t
      → Along s p (set terms len t) (onward_from (next (types_of s) (authority s) p x)) (len + 1)
  unfolding chain
  along_more {terms} x {len} {t} a h e = go a.left a.room a.terms_are a.chain_is
    where
      go : (left : ℕ) → len + left ≡ max_nesting → terms ≡ a.done ++ replicate left 0
          → numbers (chain_of s p) ≡ a.done ++ numbers (chain_from_lem x left)
          → Along s p (set terms len t) (onward_from (next (types_of s) (authority s) p x)) (len + 1)
      go zero r q k = absurd (omega arith)
      go (suc m) r q k = record {
        done = a.done ++ t ∷ [];
        left = m;
        len_is = omega (arith, a.len_is, length-append a.done (t ∷ []));
        room = omega arith;
        terms_are = (λ i. set (q i) (a.len_is i) t) ∙ set-append_seam a.done 0 (replicate m 0) t ∙ sym (append_assoc a.done (t ∷ []) (replicate m 0));
        chain_is = k ∙ (λ i. a.done ++ e i ∷ numbers (onward_from (next (types_of s) (authority s) p x) m))
            ∙ sym (append_assoc a.done (t ∷ []) (numbers (onward_from (next (types_of s) (authority s) p x) m)));
      }

  -- nothing follows
  along_explained : {terms : List ℕ} {rest : ℕ → List Placed} {len : ℕ} → Along s p terms rest len → ((k : ℕ) → len + k ≡ max_nesting → rest k ≡ [])
      → ExplainedAs (record { answer = Ok (Some len); terms = terms }) (explained (numbers (chain_of s p)))
  along_explained {terms} {rest} {len} a h = record {
    answer_is = ap explained (ap (take len) a.terms_are ∙ take_at a.done (replicate a.left 0) len (sym a.len_is) ∙ sym all);
    length_is = a.len_is ∙ ap length (sym all);
    terms_are = a.terms_are ∙ (λ i. sym all i ++ replicate (left_is i) 0);
  }
    where
      all : numbers (chain_of s p) ≡ a.done
      all = a.chain_is ∙ ap (λ (l : List Placed). a.done ++ numbers l) (h a.left a.room) ∙ append-nil a.done

      left_is : a.left ≡ max_nesting - length (numbers (chain_of s p))
      left_is = omega (arith, a.room, a.len_is, ap length all)

-- ---- the loop
pub record FollowedTo (s : List ℕ) (c : Counts) (p : ℕ) (l terms : List ℕ) (at : Place) (len : ℕ) : Type 0 where
  pub following : Following s c l p at
  along : Along s p terms (chain_from_lem s p (placed_at s at)) len

-- at the root
pub root_followed : {s : List ℕ} {c : Counts} {p : ℕ} → Followable s c p → {r : Place} → AtRoot c r → {l terms : List ℕ}
    → l ≡ replicate (max_types * 8) 0 → terms ≡ replicate max_nesting 0 → FollowedTo s c p l terms r 0
root_followed {s} {c} {p} w at-root k z = record {
  following = record {
    ready = root_place_ready w.sheet at-root;
    known = known_none (types_of s) _ k;
    privilege = w.privilege;
    needing = ap (needs (types_of s) (authority s) p) (root_placed w.sheet at-root) ∙ w.needing;
  };
  along = rw (root_placed w.sheet at-root) (along_none s p _ z);
}

module _ {s : List ℕ} {c : Counts} {p : ℕ} {l terms : List ℕ} {at : Place} {len : ℕ} (w : FollowedTo s c p l terms at len) where
  -- a place more
  module _ (h : len < max_nesting) {k : List ℕ} {y : Child} (n : Stepped s c p y (next_at s p at) k) where
    written : Along s p (set terms len at.term) (onward_from s p (next_at s p at)) (len + 1)
    written = along_more s p (placed_at s at) w.along h (tree_number s at.term)

    pub place_more : {x : Place} → y ≡ Some x → FollowedTo s c p k (set terms len at.term) x (len + 1)
    place_more e = record { following = rw e at n.following; along = rw (rw e at (sym n.is)) at written }

    pub place_last : y ≡ None → ExplainedAs (record { answer = Ok (Some (len + 1)); terms = set terms len at.term }) (explained (numbers (chain_of s p)))
    place_last e = along_explained s p written λ m _. ap (λ (o : Option Placed). onward_from s p o m) (rw e at (sym n.is))

  -- no place is left
  pub place_none : len ≡ max_nesting → ExplainedAs (record { answer = Ok (Some max_nesting); terms = terms }) (explained (numbers (chain_of s p)))
  unfolding chain
  place_none h =
      subst (λ (n : ℕ). ExplainedAs (record { answer = Ok (Some n); terms = terms }) (explained (numbers (chain_of s p)))) h
      (along_explained s p w.along λ m e. none_of m (omega arith))
    where
      none_of : (m : ℕ) → m ≡ 0 → chain_from_lem s p (placed_at s at) m ≡ []
      none_of zero e = refl
      none_of (suc m) e = absurd (omega arith)
