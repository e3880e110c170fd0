-- What the contracts of internal functions say. No reader of the public promise needs this file.
use Rattle.std.specs.Prelude.{IfSome, Bool, true, false, cond, List, ◌≡◌, ℕ, ◌<◌, replicate}
use Rattle.std.proofs.Math.Option.{Option, none, some}
use Rattle.privileges.specs.Sets.{privilege_count, has}
use Rattle.program.specs.Limits.{max_nesting}
use Rattle.program.specs.Layout.{Types, authority, types_of}
use Rattle.program.specs.Records.{term_record}
use Rattle.program.specs.declared.records.Counts.{Counts}
use Rattle.accessors.specs.Internal.{FormedSheet}
use Rattle.subtyping.specs.Known.{Known}
use Rattle.typing.specs.Places.{Placed, placed, root_of}
use Rattle.chains.specs.Explaining.{needs, is_cause, tests_it, next}
use Rattle.chains.specs.Answers.{Explanation}
use Rattle.chains.specs.declared.answer.Explained.{Explained}
use Rattle.places.specs.Internal.{placed_at, ReadyPlace, Children, children_of, Child, child_at, ReadyChild}
use Rattle.places.specs.declared.Place.{Place}

-- a function type of a readable sheet, and a privilege
pub record FunctionTypePrivilege (s : List ℕ) (c : Counts) (t p : ℕ) : Type 0 where
  pub sheet : FormedSheet s c
  pub is_function : (types_of s).is_fun t ≡ true
  pub privilege : p < privilege_count

-- a place whose term is no call, and a privilege
pub record NoCall (s : List ℕ) (c : Counts) (p : ℕ) (x : Place) : Type 0 where
  pub ready : ReadyPlace s c x
  pub no_call : (term_record s c x.term).kind ≡ 5 → ⊥
  pub privilege : p < privilege_count

-- ---- the children that may be followed for privilege p: the first child of a test of p is its yes-branch
abbrev pub followed_of : Types → (A : ℕ → ℕ) → (p : ℕ) → Placed → Children
followed_of T A p (placed Γ n c) = record {
  first = cond (tests_it T A p c) none (children_of T (placed Γ n c)).first;
  second = (children_of T (placed Γ n c)).second;
  third = (children_of T (placed Γ n c)).third;
}

abbrev pub followed_at : List ℕ → (p : ℕ) → Place → Children
followed_at s p x = followed_of (types_of s) (authority s) p (placed_at s x)

-- ---- the chain
abbrev pub needs_at : List ℕ → (p : ℕ) → Place → Bool
needs_at s p x = needs (types_of s) (authority s) p (placed_at s x)

abbrev pub cause_at : List ℕ → (p : ℕ) → Place → Bool
cause_at s p x = is_cause (types_of s) (authority s) p (placed_at s x)

abbrev pub next_at : List ℕ → (p : ℕ) → Place → Option Placed
next_at s p x = next (types_of s) (authority s) p (placed_at s x)

abbrev pub needed_by : List ℕ → (p : ℕ) → Option Placed → Bool
needed_by s p none = false
needed_by s p (some x) = needs (types_of s) (authority s) p x

-- a place of the chain, and what is known of the sheet's types
pub record Following (s : List ℕ) (c : Counts) (l : List ℕ) (p : ℕ) (x : Place) : Type 0 where
  pub ready : ReadyPlace s c x
  pub known : Known (types_of s) l
  pub privilege : p < privilege_count
  pub needing : needs_at s p x ≡ true

-- one whose term is a call, and one whose term is none
pub record FollowingCall (s : List ℕ) (c : Counts) (l : List ℕ) (p : ℕ) (x : Place) : Type 0 where
  pub following : Following s c l p x
  pub is_call : (term_record s c x.term).kind ≡ 5

pub record FollowingOther (s : List ℕ) (c : Counts) (l : List ℕ) (p : ℕ) (x : Place) : Type 0 where
  pub following : Following s c l p x
  pub no_call : (term_record s c x.term).kind ≡ 5 → ⊥

-- a child that may be the next
pub record JudgeableChild (s : List ℕ) (c : Counts) (l : List ℕ) (p : ℕ) (y : Child) : Type 0 where
  pub ready : ReadyChild s c y
  pub known : Known (types_of s) l
  pub privilege : p < privilege_count

-- the next place as it is due
pub record Stepped (s : List ℕ) (c : Counts) (p : ℕ) (r : Child) (due : Option Placed) (l : List ℕ) : Type 0 where
  pub is : child_at s r ≡ due
  pub following : IfSome r (Following s c l p)

-- a readable sheet whose root needs p
pub record Followable (s : List ℕ) (c : Counts) (p : ℕ) : Type 0 where
  pub sheet : FormedSheet s c
  pub privilege : p < privilege_count
  pub needing : needs (types_of s) (authority s) p (root_of s) ≡ true

-- ---- the entry
-- a readable sheet whose root has these needs
pub record RootNeeds (s : List ℕ) (c : Counts) (N : ℕ) : Type 0 where
  pub sheet : FormedSheet s c
  pub needs_are : (p : ℕ) → needs (types_of s) (authority s) p (root_of s) ≡ has p N

-- an answer with no chain
abbrev pub without_chain : Explanation → Explained
without_chain a = record { answer = a; terms = replicate max_nesting 0 }
