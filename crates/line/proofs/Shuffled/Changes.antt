-- A change of a network, and the change with its rows renamed of the network in another order: what is left is left in that order.
-- Assumes nothing.
use mathlib.Core.Path.{◌≡◌, refl, ◌∙◌}
use mathlib.Core.List.{List}
use Prim.Native.Nat.{ℕ, ◌<◌}
use native.Mathlib.Omega.{arith}
use lib.ListN.{length}
use Rattle.card.specs.Row.{regs_of}
use Rattle.card.specs.Packets.{page_at, stamped}
use Rattle.card.proofs.Rows.Bytes.{size_put}
use Rattle.card.proofs.Pages.Places.{page_behind}
use Rattle.card.proofs.Pages.Stored.{size_stamped}
use Rattle.table.specs.Rows.{row_start, row_at, each_row}
use Rattle.table.specs.Network.{rows, on_regs, regs_at}
use Rattle.table.specs.Shuffle.{Shuffle, shuffled}
use Rattle.table.proofs.Shaped.Alike.{Good, good_alike, alike_moved}
use Rattle.table.proofs.Shuffled.Renaming.{to_from}
use Rattle.table.proofs.Shuffled.Rows.{shuffled_at, shuffled_rows, shuffled_set, shuffled_each}
use Rattle.table.proofs.Shuffled.Shapes.{ends_at}
use Rattle.line.specs.declared.passes.Event.{Event}
use Rattle.line.specs.declared.passes.Event.TheVariants.{Recovery, Message, Taken}
use Rattle.line.specs.Traffic.{on_row, happened, carried}
use Rattle.line.proofs.Change.Changes.{does, Change, Reaches, Does, Stamps, Carries, done, row_done, Sane, Ready}
use Rattle.line.proofs.Change.Made.{size_done, moved_done}

-- a change keeps a network good
pub good_done : {n : ℕ} (net : List ℕ) → Good n net → (h : ℕ) → h < n → (c : Change) → Sane c → Ready (regs_at net h) c → Good n (done h c net)
good_done net g h l c a r = good_alike g (alike_moved net g.fits g.rams _ (moved_done net h g.fits (omega (arith, g.count)) c a r))

module _ {n : ℕ} (q : Shuffle n) where
  -- ---- the rows that a change names, renamed
  abbrev pub event_to : Event → Event
  event_to Recovery = Recovery
  event_to (Message k token) = Message (q.to k) token
  event_to (Taken i t) = Taken i (q.to t)

  abbrev pub change_to : Change → Change
  change_to (Reaches e) = Reaches (event_to e)
  change_to (Does o) = Does o
  change_to (Stamps p) = Stamps p
  change_to (Carries to broadcast k) = Carries (q.to to) broadcast k

  -- a row knows its number only by whether it is the holder, the taker or the addressee
  row_shuffled : (h : ℕ) (c : Change) (j : ℕ) (r : List ℕ) → row_done (q.to h) (change_to c) j r ≡ row_done h c (q.from j) r
  row_shuffled h (Reaches Recovery) j r = refl
  row_shuffled h (Reaches (Message k token)) j r = rw (to_from q j k)
  row_shuffled h (Reaches (Taken i t)) j r = rw (to_from q j t)
  row_shuffled h (Does o) j r = rw (to_from q j h)
  row_shuffled h (Stamps p) j r = rw (to_from q j h)
  row_shuffled h (Carries to broadcast k) j r = rw (to_from q j to, to_from q j h)

  module _ (net : List ℕ) (g : Good n net) (h : ℕ) (l : h < n) where
    pub good_ends : length net ≡ row_start net n
    good_ends = ends_at q net g.fits g.count

    pub good_rows : rows (shuffled q net) ≡ n
    good_rows = shuffled_rows q net good_ends ∙ g.count

    each : (c : Change) → Sane c → each_row (row_done (q.to h) (change_to c)) (shuffled q net) n ≡ shuffled q (each_row (row_done h c) net n)
    each c a =
        shuffled_each q net good_ends (row_done h c) (row_done (q.to h) (change_to c)) (row_shuffled h c)
        (λ j b. size_done net h g.fits (omega (arith, g.count)) c a j (omega (arith, g.count)))

    pub done_shuffled : (c : Change) → Sane c → done (q.to h) (change_to c) (shuffled q net) ≡ shuffled q (done h c net)
    unfolding happened on_row carried
    done_shuffled (Reaches e) a = rw (good_rows, g.count) (each (Reaches e) a)
    done_shuffled (Does o) a =
        rw (shuffled_at q net good_ends h) (shuffled_set q net good_ends h l (on_regs (does o) (row_at net h)) (size_put (row_at net h) (does o (regs_of (row_at net h)))))
    done_shuffled (Stamps p) a =
        let r = row_at net h in
        rw (shuffled_at q net good_ends h) (shuffled_set q net good_ends h l (stamped r (page_at r p)) (size_stamped r (page_at r p) (page_behind r p)))
    done_shuffled (Carries to broadcast k) a = rw (good_rows, g.count) (each (Carries to broadcast k) a)
