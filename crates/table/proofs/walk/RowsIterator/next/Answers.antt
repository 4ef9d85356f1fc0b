use Rattle.std.proofs.Common.{ℕ, ◌≤◌, ◌<◌, ◌≡◌, ◌∙◌, ap, arith, refl}
use Rattle.places.specs.Places.{onward}
use Rattle.table.proofs.Rows.Walks.{walk_room, walk_row, walk_on}
use Rattle.table.proofs.walk.RowsIterator.next.Goals as goal

left : {k n : ℕ} → k ≤ n → (k ≡ n → ⊥) → k < n
left l d = omega (arith, l, d)

pub row_from-row-requires : goal.row_from-row-requires
row_from-row-requires c = let p = c.self.invariant in walk_room _ _ p.0 _ _ p.2 (left p.1 c.if-self.false)

pub invariant_of-self : goal.invariant_of-self
invariant_of-self c =
    let p = c.self.invariant in
    let l = left p.1 c.if-self.false in (p.0, omega (arith, l), walk_on _ _ p.0 _ _ p.2 l _ c.row_from-row.ensures.bytes)

pub returns-clause-steps : goal.returns-clause-steps
returns-clause-steps c =
    let p = c.self.invariant in
    let l = left p.1 c.if-self.false in
    rw (← c.self.view_is) (l, refl, walk_row _ _ p.0 _ _ p.2 l _ c.row_from-row.ensures.bytes, c.row_from-row.ensures.size.0, c.row_from-row.ensures.size.1, c.row_from-row.ensures.place ∙ ap (onward _) p.2)
