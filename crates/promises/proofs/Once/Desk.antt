-- No second outcome fits a contract of `desk`.
-- Assumes nothing.
use mathlib.Core.Path.{refl, sym, ◌∙◌}
use Rattle.orders.proofs.Checks.One.{verdict_one}
use Rattle.desk.proofs.Lapping.LapLeaves.{only_walk}
use Rattle.desk.proofs.Lapping.One.{lapping_one, walked_one}
use Rattle.promises.specs.OfDesk.{OfDesk}
use Rattle.promises.proofs.Once.Same.{told, both_right_by}
use Rattle.promises.proofs.Once.Sized.{sized}

pub desk_once : OfDesk
desk_once = record {
  load = (λ _ _. tt, λ _ _ _ _ _ _. both_right_by verdict_one refl);
  nobody = (λ _ _. tt, λ _ _ _ _ _ _. told refl);
  walk = (
    λ κs a. tt,
    λ κs a x x' w w' p q. (
      λ o o'.
          let e = only_walk _ _ _ _ _ _ _ _ _ _ (sized κs x o) (sized κs x' o') p.0 q.0 in
          walked_one x x' e.0 e.1.0 e.1.1.0,
      λ i. ((p.0.5 ∙ sym q.0.5) i, (tt, tt)),
    ),
  );
  lap = (λ _ _. tt, λ κs a x x' w w' p q. (lapping_one x x' (p.0.0 ∙ sym q.0.0), λ i. ((p.0.1 ∙ sym q.0.1) i, ((p.0.2 ∙ sym q.0.2) i, tt))));
}
