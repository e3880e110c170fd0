-- Words: what evaluating a term gives, as one number, sort + 2^16 payload + 2^32 environment. Sorts 0, 1 and 2 are a boolean, a number and a
-- function, whose environment is the number of a cell; a number that is known within limits has its lowest value as payload and its highest in the
-- place of the environment, and a boolean that is not decided has the payload 2; a stop's sort is the papers' number of it and its payload the term
-- that stops.
use Rattle.std.specs.Prelude.{Bool, Result, Ok, Err, cond, ℕ, ◌+◌, ◌*◌, ◌/◌, ◌%◌, ltb, eqb}
use Rattle.stores.specs.declared.values.Value.{Value}
use Rattle.stores.specs.declared.values.Value.TheVariants.{Bool as VBool, Num, Fun}
use Rattle.stores.specs.declared.values.Stop.{Stop}
use Rattle.stores.specs.declared.values.Stop.TheVariants.{Check, Stuck, OpenCalls, Calls, Cells, Posts, Undecided}

abbrev pub boolean_word : Bool → ℕ
boolean_word b = cond b 65536 0

abbrev pub number_word : ℕ → ℕ
number_word n = 1 + 65536 * n

abbrev pub interval_word : (lowest highest : ℕ) → ℕ
interval_word l h = 1 + 65536 * l + 4294967296 * h

abbrev pub undecided_word : ℕ
undecided_word = 65536 * 2

abbrev pub function_word : (body env : ℕ) → ℕ
function_word body env = 2 + 65536 * body + 4294967296 * env

abbrev pub stop_word : (cause t : ℕ) → ℕ
stop_word cause t = cause + 65536 * t

abbrev pub sort_of : ℕ → ℕ
sort_of w = w % 65536

abbrev pub payload_of : ℕ → ℕ
payload_of w = w / 65536 % 65536

abbrev pub env_of : ℕ → ℕ
env_of w = w / 4294967296 % 65536

abbrev pub is_stop : ℕ → Bool
is_stop w = ltb 2 (sort_of w)

-- what a sort, a payload and an environment stand for
unfoldable pub out_by : (sort payload env : ℕ) → Result Value Stop
out_by k n e =
    cond (eqb k 0) (Ok (VBool (ltb 0 n))) (cond (eqb k 1) (Ok (Num n)) (cond (eqb k 2) (Ok (Fun n e))
    (cond (eqb k 17) (Err (Check n)) (cond (eqb k 18) (Err (Stuck n)) (cond (eqb k 19) (Err (OpenCalls n))
    (cond (eqb k 20) (Err (Calls n)) (cond (eqb k 21) (Err (Cells n)) (cond (eqb k 22) (Err (Posts n)) (Err (Undecided n))))))))))

abbrev pub out_of : ℕ → Result Value Stop
out_of w = out_by (sort_of w) (payload_of w) (env_of w)
