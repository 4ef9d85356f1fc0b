-- Document 01's sums, in a single list under one theorem.
-- Assumes nothing.
use mathlib.Core.Path.{◌≡◌, sym, ap, ◌∙◌}
use mathlib.Core.List.{List, ◌∷◌, map}
use Prim.Native.Nat.{ℕ, ◌+◌}
use lib.ListN.{take}
use Rattle.commands.proofs.Carried.{page_2c, page_0b}
use Rattle.card.proofs.CardSums.{count_2, count_3, count_255, long_3, long_4, long_255}
use Rattle.registers.proofs.Values.Sums.{nid_255, pointer_1023, status_reset, status_written, shown_reset, shown_cleared}
use Rattle.table.specs.Network.{rows, top_id}
use Rattle.table.proofs.Shaped.Alike.{bytes_rams}
use Rattle.desk.specs.Lap.{nodes, answers, invitations, takers, lap_steps}
use Rattle.desk.specs.Demand.{Ready, ids_on_line}
use Rattle.promises.specs.Sums.{hop_of, Sums}
use Rattle.desk.proofs.Runs.Hops.{gaps}
use Rattle.desk.proofs.Runs.LapCounts.{lap_total, lap_hops}
use Rattle.desk.proofs.Theorems.Demanded.{ids_roster}

module _ (net : List ℕ) (r : Ready net) where
  hop : top_id net (rows net) ≡ 200 → (l : List ℕ) → ids_on_line net ≡ 7 ∷ l
      → take 1 (map hop_of (takers net 0 (answers (lap_steps net) net))) ≡ take 1 (gaps 200 (7 ∷ l))
  hop h l e =
      let b = bytes_rams net r.fits r.bytes in
      ap (take 1) (lap_hops net r.fits b r.lost r.two ∙ ap (gaps (top_id net (rows net))) (sym (ids_roster net) ∙ e) ∙ ap (λ (g : ℕ). gaps g (7 ∷ l)) h)

  pair : nodes net ≡ 2 → invitations (answers (lap_steps net) net) ≡ 258
  pair e = lap_total net r.fits (bytes_rams net r.fits r.bytes) r.lost r.two ∙ ap (256 +◌) e

pub sums : Sums
sums = record {
  count_2 = count_2;
  count_3 = count_3;
  count_255 = count_255;
  long_3 = long_3;
  long_4 = long_4;
  long_255 = long_255;
  page_2c = page_2c;
  page_0b = page_0b;
  nid_255 = nid_255;
  pointer_1023 = pointer_1023;
  status_reset = status_reset;
  status_written = status_written;
  shown_reset = shown_reset;
  shown_cleared = shown_cleared;
  from_200_to_7 = λ net r h l e. hop net r h l e;
  two_nodes = λ net r e. pair net r e;
}
