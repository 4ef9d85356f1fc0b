-- No second outcome fits a contract of `orders`.
-- Assumes nothing.
use mathlib.Core.Path.{refl, sym, ◌∙◌}
use Rattle.orders.proofs.Checks.One.{verdict_one, bad_is}
use Rattle.orders.proofs.Forms.Names.{name_there}
use Rattle.promises.specs.OfOrders.{OfOrders}
use Rattle.promises.proofs.Once.Same.{told, told_by, part}

pub orders_once : OfOrders
orders_once = record {
  records = (λ _ _. tt, λ _ _ _ _ _ _. told refl);
  id_at = λ _ _ _ _ _ _. told refl;
  flags_at = λ _ _ _ _ _ _. told refl;
  printable = (λ _ _. tt, λ _ _ _ _ _ _. told refl);
  record_of = λ _ _ _ _ _ _. told refl;
  name_at = (λ _ _. tt, λ _ _ x x' _ _. part x x' refl (name_there _ _));
  from = (λ _ _. tt, λ _ _ _ _ _ _ p q. (bad_is _ _ (p.0 ∙ sym q.0) (p.1 ∙ sym q.1), refl));
  check = (λ _ _. tt, λ _ _ _ _ _ _. told_by verdict_one refl);
}
