use Rattle.std.proofs.Common.{Bool, eqb, true, false, ◌≡◌, ℕ, rules}
use Rattle.std.proofs.lemmas.Iterator.{first_from_Range}
use Rattle.orders.specs.Form.{id_at}
use Rattle.orders.proofs.Forms.Found.{below_found}
use borrow.Author.Tests.{tests}
use Rattle.orders.proofs.form.record_of.Goals as goal

pub returns : goal.returns
returns c =
    let has : ℕ → Bool = λ k. eqb (id_at c.args.order.now k) c.args.id in
    below_found has c.args.n _
    (first_from_Range _ _ _ _ (λ k. has k ≡ true) (λ k. has k ≡ false) c.find.ensures.ran (λ x q k. search (rules, tests)) (λ x q k. search (rules, tests)))
