-- C-16: the row that an outcome names is on line, carries the packet's DID and is not the sender; and what it says of the packet.
-- Assumes nothing.
use mathlib.Core.Path.{◌≡◌, refl, ◌∙◌}
use mathlib.Core.Bool.{true}
use mathlib.Core.List.{List}
use Prim.Native.Nat.{ℕ}
use borrow.Author.Tests.{eq-eqb, ne_eqb}
use Rattle.line.specs.declared.traffic.Outcome.{Outcome}
use Rattle.line.specs.declared.traffic.Outcome.TheVariants.{Nothing, Malformed, Broadcast, NoAnswer, Nak, Delivered, Unacknowledged}
use Rattle.line.specs.Answers.{Held}
use Rattle.table.specs.Network.{rows, holder, node_of, shape}
use Rattle.table.proofs.Online.Nodes.{node_of_found}
use Rattle.table.proofs.Shaped.Alike.{Rams}
use Rattle.line.specs.Step.{step}
use Rattle.line.specs.Outcomes.{sent_to, Answerer, Named}
use Rattle.line.proofs.Turn.Storing.{Found, Reached}
use Rattle.line.proofs.Promised.TheHolder.{packet_reached}
use Rattle.line.proofs.Promised.EveryRow.{held_taken}

pub found_answers : (net : List ℕ) (r : ℕ) → Found net r → Answerer net r
found_answers net r f =
    let i : node_of net (sent_to net) (holder net) (rows net) ≡ r = rw (ne_eqb (sent_to net) 0 f.asked) at f.is in
    let n = rw i at (node_of_found net (sent_to net) (holder net) (rows net)) in
    record { there = f.there; carries = (n f.there).0; other = (n f.there).1 }

named_by : (net : List ℕ) (fault : ℕ) (o : Outcome) → Reached net fault o → Named net fault o
named_by net fault Nothing e = tt
named_by net fault Malformed e = tt
named_by net fault (Broadcast s) e = e.0
named_by net fault NoAnswer e = tt
named_by net fault (Nak r) e = (found_answers net r e.0, e.1)
named_by net fault (Delivered r s) e = (found_answers net r e.0, (e.1.0, e.1.1 r ∙ eq-eqb r r refl))
named_by net fault (Unacknowledged r s stored) e = (found_answers net r e.0, e.1)

pub step_names : (net : List ℕ) → shape net ≡ true → Rams net → (fault : ℕ) (o : Outcome) → (step net fault).answer ≡ Held o → Named net fault o
step_names net s b fault o e = named_by net fault o (packet_reached net (held_taken net s fault o e) s b fault o e)
