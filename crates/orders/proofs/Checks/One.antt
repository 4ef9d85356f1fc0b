-- What is told of an order leaves one result.
-- Assumes nothing.
use mathlib.Core.Path.{◌≡◌, refl}
use mathlib.Core.HLevel.{is_prop→PathP}
use Prim.Native.Nat.{ℕ, zero, suc, ◌<◌}
use native.Mathlib.Omega.{arith}
use Rattle.std.proofs.Common.{Option, Some, None, Result, Ok, Err}
use Rattle.std.specs.Prelude.{IfSome}
use Rattle.std.proofs.Props.{props}
use Rattle.told.proofs.Told.One.{one_by, refusal_of, refusal_back, result_of, refused_back}
use Rattle.orders.specs.declared.bad.Bad.{Bad}
use Rattle.orders.specs.Check.{Checked, record_named, verdict}

-- the record of what is told: 0 names none
abbrev named : ℕ → Option ℕ
named zero = None
named (suc k) = Some (suc k)

named_counted : (n : ℕ) → IfSome (named n) (λ k. 0 < k)
named_counted zero = tt
named_counted (suc k) = omega arith

named_back : (o : Option ℕ) → IfSome o (λ k. 0 < k) → named (record_named o) ≡ o
named_back None h = refl
named_back (Some zero) h = absurd (omega (arith, h))
named_back (Some (suc k)) h = refl

counted_prop : (o : Option ℕ) → IsProp (IfSome o (λ k. 0 < k))
counted_prop o = hlevel props

-- a Bad is its two fields: of what its ghost field says there is one proof
pub bad_is : (b c : Bad) → b.refusal ≡ c.refusal → b.«record» ≡ c.«record» → b ≡ c
bad_is b c p q =
    λ i. record {
      refusal = p i;
      «record» = q i;
      counted = is_prop→PathP (λ i. IfSome (q i) (λ k. 0 < k)) (λ i. counted_prop (q i)) b.counted c.counted i;
    }

abbrev check_result : Checked → Result Unit Bad
check_result c = result_of c.number tt (record { refusal = refusal_of c.number; «record» = named c.bad; counted = named_counted c.bad })

verdict_back : (r : Result Unit Bad) → check_result (verdict r) ≡ r
verdict_back (Ok u) = refl
verdict_back (Err b) = refused_back b.refusal tt (bad_is _ b (refusal_back b.refusal) (named_back b.«record» b.counted))

pub verdict_one : (r s : Result Unit Bad) → verdict r ≡ verdict s → r ≡ s
verdict_one = one_by verdict check_result verdict_back
