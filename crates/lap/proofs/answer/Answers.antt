-- The network of an order that fits the buffer fits its own.
use Rattle.std.proofs.Common.{◌≡◌, ℕ, ◌+◌, ◌*◌, ◌≤◌, List, length, Option, Some, None, arith}
use Rattle.std.specs.Prelude.{IfSome}
use Rattle.table.specs.Network.{row_limit}
use Rattle.table.specs.Calls.{exact_length}
use Rattle.table.proofs.Access.Fresh.{exact_mono}
use Rattle.orders.specs.Form.{record_bytes, records}
use Rattle.orders.specs.Check.{record_named}
use Rattle.orders.proofs.Forms.Records.{records_within}
use Rattle.desk.proofs.Loads.Loaded.{load_within}
use Rattle.lap.proofs.answer.Goals as goal

-- no more records than there may be rows, and room for as many
few : (order : List ℕ) (n : ℕ) → n ≡ records order → length order ≤ record_bytes * row_limit + 1 → n ≤ row_limit
few order n e h = omega (arith, e, records_within order, h)

room : (order net : List ℕ) (n size : ℕ) → n ≡ records order → length order ≤ record_bytes * row_limit + 1 → exact_length row_limit ≤ length net
    → size ≡ exact_length n → size ≤ length net
room order net n size e h r s = omega (arith, s, exact_mono n row_limit (few order n e h), r)

-- the record that is named is one of the order's
within : (k : Option ℕ) (n : ℕ) → record_bytes * record_named k ≤ n → IfSome k (λ k. record_bytes * k ≤ n)
within None n h = tt
within (Some k) n h = h

pub exact_length-requires : goal.exact_length-requires
exact_length-requires g c = let f = few _ _ c.records-n.ensures c.requires.order_len_bound in omega arith

pub slice_bounds-lent-end : goal.slice_bounds-lent-end
slice_bounds-lent-end g c = room _ _ _ _ c.records-n.ensures c.requires.order_len_bound c.requires.row_limit_in_bounds c.exact_length.ensures

pub unfit-requires : goal.unfit-requires
unfit-requires g c = within _ _ (load_within _ _ _ c.in-Err.ensures.told)

-- a record is a row, and the list has an entry for as many rows as there may be
pub slice_bounds-takers-end : goal.slice_bounds-takers-end
slice_bounds-takers-end g c =
    let f = few _ _ c.records-n.ensures c.requires.order_len_bound in omega (arith, f)
