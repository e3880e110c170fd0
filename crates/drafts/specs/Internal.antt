-- What the contracts of internal functions say, here and in `report`. No reader of the public promise needs this file.
use Rattle.std.specs.Prelude.{List, ◌++◌, ◌≡◌, ℕ, ◌+◌, ◌≤◌, take}
use Rattle.drafts.specs.declared.draft.Draft.{Draft}

-- room for the longest text, which has 209 bytes
abbrev pub draft_bytes : ℕ
draft_bytes = 224

abbrev pub contents : Draft → List ℕ
contents d = take d.len d.bytes

-- nothing yet
pub record Blank (r : Draft) : Type 0 where
  pub len_is : r.len ≡ 0

-- a piece more, of at most so many bytes
pub record DraftAppended (d : Draft) (piece : List ℕ) (most : ℕ) (r : Draft) : Type 0 where
  pub contents_are : contents r ≡ contents d ++ piece
  pub len_most : r.len ≤ d.len + most

-- the text alone, of at most so many bytes
pub record DraftHolds (text : List ℕ) (most : ℕ) (r : Draft) : Type 0 where
  pub contents_are : contents r ≡ text
  pub len_most : r.len ≤ most
