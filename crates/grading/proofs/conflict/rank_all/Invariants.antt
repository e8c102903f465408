use Rattle.std.proofs.Common.{◌≡◌, ℕ, ◌<◌, get_or}
use Rattle.semantics.specs.Plain.{by_place}
use Rattle.grading.specs.Ranks.{ranks, ranks_of}
use Rattle.grading.proofs.conflict.rank_all.Given as goal

abbrev pub invariant-loop-i : goal.invariant-loop-i
invariant-loop-i g l =
    let s = g.S.Scale.scale in
    (by_place l.rules ≡ by_place l.initial.rules)
    × ((k : ℕ) → k < l.i → get_or (ranks l.rules) k 0 ≡ get_or (ranks_of s l.rows l.initial.rules) k 0)
