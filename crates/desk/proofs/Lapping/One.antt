-- What a lap call tells leaves one result, and so does what a walked lap does.
-- Assumes nothing.
use mathlib.Core.Path.{◌≡◌, refl}
use mathlib.Core.List.{List}
use Prim.Native.Nat.{ℕ}
use Rattle.std.proofs.Common.{Result, Ok, Err}
use Rattle.told.specs.declared.refusals.Refusal.{Refusal}
use Rattle.told.proofs.Told.One.{one_by, refusal_of, refusal_back, result_of, refused_back}
use Rattle.desk.specs.declared.laps.Taker.{Taker}
use Rattle.desk.specs.declared.laps.Walked.{Walked}
use Rattle.desk.specs.Lap.{Lapped, lapping, walked_count, walked_list, walked_total}

abbrev lap_result : Lapped → Result ℕ Refusal
lap_result l = result_of l.number l.total (refusal_of l.number)

lapping_back : (r : Result ℕ Refusal) → lap_result (lapping r) ≡ r
lapping_back (Ok total) = refl
lapping_back (Err e) = refused_back e 0 (refusal_back e)

pub lapping_one : (r s : Result ℕ Refusal) → lapping r ≡ lapping s → r ≡ s
lapping_one = one_by lapping lap_result lapping_back

-- a lap, of how many takers it has, its list, and what it tells
abbrev walk_told : Result Walked Refusal → ℕ × (List Taker × Result ℕ Refusal)
walk_told r = (walked_count r, (walked_list r, walked_total r))

abbrev walk_result : ℕ × (List Taker × Result ℕ Refusal) → Result Walked Refusal
walk_result (n, (list, Ok total)) = Ok (record { total = total; n = n; list = list })
walk_result (n, (list, Err e)) = Err e

walked_back : (r : Result Walked Refusal) → walk_result (walk_told r) ≡ r
walked_back (Ok w) = refl
walked_back (Err e) = refl

pub walked_one : (r s : Result Walked Refusal) → walked_count r ≡ walked_count s → walked_list r ≡ walked_list s → lapping (walked_total r) ≡ lapping (walked_total s) → r ≡ s
walked_one r s n l t = one_by walk_told walk_result walked_back r s (λ i. (n i, (l i, lapping_one (walked_total r) (walked_total s) t i)))
