use Rattle.rulebase.specs.Calls.{state_in}
use Rattle.rulebase.proofs.InFront.{front_performs, front_fetched}
use Rattle.rulebase.proofs.base.RuleBase.perform.Goals as goal

pub returns-in_ok-fetch-in-Fetch-clause-performs : goal.returns-in_ok-fetch-in-Fetch-clause-performs
returns-in_ok-fetch-in-Fetch-clause-performs g c =
    let h = c.in_ok-fetch-in-Fetch.ensures in
    rw c.in-Fetch.is (front_performs g.S.Scale.scale c.args.self.now _ _ c.in-Fetch.length c.args.rows.now c.fetch.new.buffer c.in_ok-fetch-in-Fetch.field-0 c.min-front.ensures h.performs h.buffer)

pub returns-in_ok-fetch-in-Fetch-clause-rows : goal.returns-in_ok-fetch-in-Fetch-clause-rows
returns-in_ok-fetch-in-Fetch-clause-rows g c =
    let s = g.S.Scale.scale in
    let h = c.in_ok-fetch-in-Fetch.ensures in
    (front_fetched s (state_in s c.args.self.now) _ c.in-Fetch.length c.args.rows.now c.fetch.new.buffer c.min-front.ensures c.in_ok-fetch-in-Fetch.field-0 h.performs.answer h.buffer).1
