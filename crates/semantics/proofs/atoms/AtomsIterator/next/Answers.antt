use Rattle.std.proofs.Common.{rules, ◌≡◌, ◌∷◌, ap, length}
use Rattle.semantics.specs.Members.{members}
use Rattle.semantics.specs.Sets.{width, Lowest}
use Rattle.semantics.proofs.Walk.{members_first, members_none}
use Rattle.semantics.proofs.atoms.AtomsIterator.next.Goals as goal

pub returns-in_err-atom-clause-steps : goal.returns-in_err-atom-clause-steps
returns-in_err-atom-clause-steps c = search (rules, members_none)

first : (c : goal.After-self-1) → members width c.args.self.now.rest ≡ c.in_ok-atom.atom.number ∷ members width c.without-self.result
first c =
    let atom = c.in_ok-atom.atom in
    members_first width c.args.self.now.rest c.without-self.result atom.number atom.ok (search rules) c.without-self.ensures

pub returns-clause-steps : goal.returns-clause-steps
returns-clause-steps c =
    let lowest : Lowest c.in_ok-atom.atom.number c.args.self.now.rest = search rules in
    ((lowest, c.without-self.ensures), first c)

pub returns-clause-goes : goal.returns-clause-goes
returns-clause-goes c = let longer = ap length (first c) in search rules
