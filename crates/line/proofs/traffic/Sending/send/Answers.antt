use Rattle.std.proofs.Common.{◌≡◌, is_none, unwrap_or, rules}
use Rattle.table.specs.Network.{rows}
use Rattle.line.specs.Traffic.{went_out}
use Rattle.line.proofs.Turn.Sends.{went_row}
use Rattle.line.proofs.traffic.Sending.send.Goals as goal

pub returns-then-self-ne-DAMAGED-clause-row : goal.returns-then-self-ne-DAMAGED-clause-row
unfolding went_out
returns-then-self-ne-DAMAGED-clause-row c =
    let a = c.args in
    let e : c.carry.new.net ≡ went_out a.net.now a.self.h a.self.page a.self.fault (unwrap_or a.to (rows a.net.now)) (is_none a.to) = search rules in
    went_row _ (λ i. search rules) _ c.requires _ a.self.page_bound _ _ _ _ e
