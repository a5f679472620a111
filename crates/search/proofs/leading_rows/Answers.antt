use Rattle.std.proofs.Common.{ℕ, [], ◌∷◌, sym, subst, ◌∙◌, arith}
use Rattle.walks.specs.Stands.{word}
use Rattle.walks.specs.Walks.{Asked, Walked}
use Rattle.search.specs.Walking.{search_way, Known}
use Rattle.search.proofs.Root.{root_stuck, root_asked}
use Rattle.search.proofs.leading_rows.Goals as goal

pub node_search-answer-requires : goal.node_search-answer-requires
node_search-answer-requires c =
    let a = c.args in
    let some = c.if-rows-eq0.false in
    (subst (λ (d : ℕ). Asked (search_way a.rows.now) (Known a.out a.splits) a.u.now 0 (word a.row d ∷ [])) (sym c.depth_above-depths.ensures) (root_asked a.rows.now c.requires.0), omega arith)

pub returns : goal.returns
returns c k root g left e =
    let a = c.args in
    let w = subst (λ (d : ℕ). Walked (search_way a.rows.now) (Known a.out a.splits) a.u.now 0 (word a.row d ∷ []) [] c.node_search-answer.result []) c.depth_above-depths.ensures c.node_search-answer.ensures in
    c.refusal_place.ensures ∙ root_stuck g a.rows.now (omega arith) w left e
