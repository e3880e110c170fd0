-- The papers' numbers of the stops, 01's 17 to 22 and 02's 36, and the term that stops.
use Rattle.std.specs.Prelude.{ℕ}
use Rattle.stores.specs.declared.values.Stop.{Stop}
use Rattle.stores.specs.declared.values.Stop.TheVariants.{Check, Stuck, OpenCalls, Calls, Cells, Posts, Undecided}

abbrev pub stop_cause : Stop → ℕ
stop_cause (Check t) = 17
stop_cause (Stuck t) = 18
stop_cause (OpenCalls t) = 19
stop_cause (Calls t) = 20
stop_cause (Cells t) = 21
stop_cause (Posts t) = 22
stop_cause (Undecided t) = 36

abbrev pub stop_place : Stop → ℕ
stop_place (Check t) = t
stop_place (Stuck t) = t
stop_place (OpenCalls t) = t
stop_place (Calls t) = t
stop_place (Cells t) = t
stop_place (Posts t) = t
stop_place (Undecided t) = t
