-- Texts by computation from the sheets' bytes: the print that 01 shows, and some others.
use Rattle.std.specs.Prelude.{List, [], ◌∷◌, ◌≡◌, refl, ℕ}
use Rattle.privileges.specs.Sets.{has, meet, union, insert, remove, subset}
use Rattle.program.specs.Screening.{refuse_at, screen}
use Rattle.program.specs.Decoding.{decoding}
use Rattle.typing.specs.Subtyping.{subtype_in, subtype, wider}
use Rattle.typing.specs.Rules.{remove_authorised}
use Rattle.typing.specs.Checking.{infer}
use Rattle.typing.specs.Verdicts.{verdict}
use Rattle.semantics.specs.Meaning.{eval_with, apply, eval}
use Rattle.semantics.specs.Access.{add_authorised}
use Rattle.semantics.specs.Runs.{course}
use Rattle.text.specs.Text.{ascii, hexadecimal, decimal_in, decimal, printed}

-- "This sheet of 78 bytes", a line for each field's header and each record
abbrev sheet : List ℕ
sheet =
    1 ∷ 0 ∷ 2 ∷ 0 ∷ 1
    ∷ 2 ∷ 0 ∷ 4 ∷ 0 ∷ 0 ∷ 0 ∷ 2
    ∷ 3 ∷ 0 ∷ 20
    ∷ 0 ∷ 0 ∷ 0 ∷ 0 ∷ 0 ∷ 0 ∷ 0 ∷ 0 ∷ 0 ∷ 0
    ∷ 1 ∷ 0 ∷ 0 ∷ 0 ∷ 0 ∷ 0 ∷ 0 ∷ 0 ∷ 0 ∷ 0
    ∷ 4 ∷ 0 ∷ 40
    ∷ 1 ∷ 0 ∷ 0 ∷ 7 ∷ 0 ∷ 0 ∷ 0 ∷ 0
    ∷ 14 ∷ 0 ∷ 0 ∷ 0 ∷ 0 ∷ 0 ∷ 0 ∷ 0
    ∷ 7 ∷ 1 ∷ 0 ∷ 1 ∷ 0 ∷ 0 ∷ 0 ∷ 0
    ∷ 8 ∷ 1 ∷ 0 ∷ 2 ∷ 0 ∷ 0 ∷ 0 ∷ 0
    ∷ 9 ∷ 0 ∷ 0 ∷ 3 ∷ 0 ∷ 0 ∷ 0 ∷ 0 ∷ []

pub prints : printed sheet ≡ ascii "terms 5\nneeds 00000000\ntype num\nend num 7 calls 0 cells 0 posts 1 held 0\n"
unfolding printed decimal decimal_in hexadecimal verdict decoding screen refuse_at infer subtype subtype_in wider remove_authorised course eval apply eval_with
    add_authorised has meet union insert remove subset
prints = refl

-- ---- other sheets: one principal, types 0 and 1, and so many bytes of terms
abbrev sheet_of : (authority bytes : ℕ) → List ℕ → List ℕ
sheet_of A n terms =
    1 ∷ 0 ∷ 2 ∷ 0 ∷ 1
    ∷ 2 ∷ 0 ∷ 4 ∷ 0 ∷ 0 ∷ 0 ∷ A
    ∷ 3 ∷ 0 ∷ 20
    ∷ 0 ∷ 0 ∷ 0 ∷ 0 ∷ 0 ∷ 0 ∷ 0 ∷ 0 ∷ 0 ∷ 0
    ∷ 1 ∷ 0 ∷ 0 ∷ 0 ∷ 0 ∷ 0 ∷ 0 ∷ 0 ∷ 0 ∷ 0
    ∷ 4 ∷ 0 ∷ n ∷ terms

-- "Without its enable: needs 00000002; stop 17 on an empty stack"
pub stops : printed (sheet_of 2 32
    (1 ∷ 0 ∷ 0 ∷ 7 ∷ 0 ∷ 0 ∷ 0 ∷ 0
    ∷ 14 ∷ 0 ∷ 0 ∷ 0 ∷ 0 ∷ 0 ∷ 0 ∷ 0
    ∷ 7 ∷ 1 ∷ 0 ∷ 1 ∷ 0 ∷ 0 ∷ 0 ∷ 0
    ∷ 9 ∷ 0 ∷ 0 ∷ 2 ∷ 0 ∷ 0 ∷ 0 ∷ 0 ∷ []))
    ≡ ascii "terms 4\nneeds 00000002\ntype num\nstop 17 at 2 calls 0 cells 0 posts 0 held 0\n"
unfolding printed decimal decimal_in hexadecimal verdict decoding screen refuse_at infer subtype subtype_in wider remove_authorised course eval apply eval_with
    add_authorised has meet union insert remove subset
stops = refl

-- "With A(0) empty: refused 11 at 4"
pub refuses : printed (sheet_of 0 40
    (1 ∷ 0 ∷ 0 ∷ 7 ∷ 0 ∷ 0 ∷ 0 ∷ 0
    ∷ 14 ∷ 0 ∷ 0 ∷ 0 ∷ 0 ∷ 0 ∷ 0 ∷ 0
    ∷ 7 ∷ 1 ∷ 0 ∷ 1 ∷ 0 ∷ 0 ∷ 0 ∷ 0
    ∷ 8 ∷ 1 ∷ 0 ∷ 2 ∷ 0 ∷ 0 ∷ 0 ∷ 0
    ∷ 9 ∷ 0 ∷ 0 ∷ 3 ∷ 0 ∷ 0 ∷ 0 ∷ 0 ∷ []))
    ≡ ascii "refused 11 at 4\n"
unfolding printed decimal decimal_in hexadecimal verdict decoding screen refuse_at infer subtype subtype_in wider remove_authorised course eval apply eval_with
    add_authorised has meet union insert remove subset
refuses = refl

-- "a boolean prints `bool 0` or `bool 1`"
pub ends_true : printed (sheet_of 0 16 (0 ∷ 1 ∷ 0 ∷ 0 ∷ 0 ∷ 0 ∷ 0 ∷ 0 ∷ 9 ∷ 0 ∷ 0 ∷ 0 ∷ 0 ∷ 0 ∷ 0 ∷ 0 ∷ []))
    ≡ ascii "terms 2\nneeds 00000000\ntype bool\nend bool 1 calls 0 cells 0 posts 0 held 0\n"
unfolding printed decimal decimal_in hexadecimal verdict decoding screen refuse_at infer subtype subtype_in wider remove_authorised course eval apply eval_with
    add_authorised has meet union insert remove subset
ends_true = refl

-- 02, W10: "the program's run line closes with `held` and the count": 65535 + 1
pub saturated_sum : printed (sheet_of 0 32
    (1 ∷ 0 ∷ 255 ∷ 255 ∷ 0 ∷ 0 ∷ 0 ∷ 0
    ∷ 1 ∷ 0 ∷ 0 ∷ 1 ∷ 0 ∷ 0 ∷ 0 ∷ 0
    ∷ 11 ∷ 0 ∷ 0 ∷ 0 ∷ 0 ∷ 1 ∷ 0 ∷ 0
    ∷ 9 ∷ 0 ∷ 0 ∷ 2 ∷ 0 ∷ 0 ∷ 0 ∷ 0 ∷ []))
    ≡ ascii "terms 4\nneeds 00000000\ntype num\nend num 65535 calls 0 cells 0 posts 0 held 1\n"
unfolding printed decimal decimal_in hexadecimal verdict decoding screen refuse_at infer subtype subtype_in wider remove_authorised course eval apply eval_with
    add_authorised has meet union insert remove subset
saturated_sum = refl

-- and at a stop: 1 - 65535, then a check in the other operand
pub saturated_at_stop : printed (sheet_of 2 56
    (1 ∷ 0 ∷ 0 ∷ 1 ∷ 0 ∷ 0 ∷ 0 ∷ 0
    ∷ 1 ∷ 0 ∷ 255 ∷ 255 ∷ 0 ∷ 0 ∷ 0 ∷ 0
    ∷ 12 ∷ 0 ∷ 0 ∷ 0 ∷ 0 ∷ 1 ∷ 0 ∷ 0
    ∷ 1 ∷ 0 ∷ 0 ∷ 7 ∷ 0 ∷ 0 ∷ 0 ∷ 0
    ∷ 7 ∷ 1 ∷ 0 ∷ 3 ∷ 0 ∷ 0 ∷ 0 ∷ 0
    ∷ 11 ∷ 0 ∷ 0 ∷ 2 ∷ 0 ∷ 4 ∷ 0 ∷ 0
    ∷ 9 ∷ 0 ∷ 0 ∷ 5 ∷ 0 ∷ 0 ∷ 0 ∷ 0 ∷ []))
    ≡ ascii "terms 7\nneeds 00000002\ntype num\nstop 17 at 4 calls 0 cells 0 posts 0 held 1\n"
unfolding printed decimal decimal_in hexadecimal verdict decoding screen refuse_at infer subtype subtype_in wider remove_authorised course eval apply eval_with
    add_authorised has meet union insert remove subset
saturated_at_stop = refl

-- "Empty file: 1."
pub empty_file : printed [] ≡ ascii "refused 1 at 0\n"
unfolding printed decimal decimal_in verdict decoding screen refuse_at
empty_file = refl

-- ---- numbers
pub zero_digits : decimal 0 ≡ ascii "0"
unfolding decimal decimal_in
zero_digits = refl

pub all_digits : decimal 18446744073709551615 ≡ ascii "18446744073709551615"
unfolding decimal decimal_in
all_digits = refl

pub hexadecimal_digits : hexadecimal 8 0x89ABCDEF ≡ ascii "89ABCDEF"
unfolding hexadecimal
hexadecimal_digits = refl
