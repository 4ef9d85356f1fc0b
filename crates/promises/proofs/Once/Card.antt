-- No second outcome fits a contract of `card`.
-- Assumes nothing.
use mathlib.Core.Path.{refl}
use Rattle.told.proofs.Told.One.{number_one}
use Rattle.card.proofs.Pages.Refused.{data_refused}
use Rattle.promises.specs.OfCard.{OfCard}
use Rattle.promises.proofs.Once.Same.{told, told_by, left, both, part, unrefused}

pub card_once : OfCard
card_once = record {
  malformed = (λ _ _. tt, λ _ _ _ _ _ _. told refl);
  storable = (λ _ _. tt, λ _ _ _ _ _ _. told refl);
  page_shape = λ _ _ _ _ _ _. told refl;
  destination = λ _ _ _ _ _ _. told refl;
  page_data = λ _ _ x x' _ _. part x x' refl (unrefused _ (data_refused _ _));
  may_read_data = λ _ _ _ _ _ _. told_by number_one refl;
  packet_at = λ _ _ _ _ _ _. told refl;
  store_packet = λ _ _ _ _ _ _. left refl;
  stamp = λ _ _ _ _ _ _. left refl;
  size = (λ _ _. tt, λ _ _ _ _ _ _. told refl);
  load = λ _ _ _ _ _ _. told refl;
  store = λ _ _ _ _ _ _. left refl;
  all_zero = (λ _ _. tt, λ _ _ _ _ _ _. told refl);
  fill_zero = (λ _ _. tt, λ _ _ _ _ _ _. left refl);
  well_formed = λ _ _ _ _ _ _. told refl;
  create = λ _ _ _ _ _ _. left refl;
  hardware_reset = λ _ _ _ _ _ _. left refl;
  read = λ _ _ _ _ _ _. both refl;
  write = λ _ _ _ _ _ _. left refl;
}
