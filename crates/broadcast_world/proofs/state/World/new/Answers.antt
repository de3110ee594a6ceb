use Rattle.std.proofs.Common.{sym, ap, ◌∙◌}
use Rattle.std.specs.List.{find, list_any}
use Rattle.std.specs.Cmp.{eq_by_cmp_equiv}
use Rattle.std.specs.Ordering.{eq_by_cmp}
use Rattle.broadcast_core.proofs.Distinct.{or_false}
use Rattle.broadcast_world.specs.Made.{shares_key}
use Rattle.broadcast_world.proofs.Places.{keys-apart}
use Rattle.broadcast_world.proofs.state.World.new.Goals as goal

pub returns-clause-apart : goal.returns-clause-apart
returns-clause-apart g c = λ q here.
    let total = g.met.P.Ord.total in
    let none = sym c.shares_key.ensures ∙ c.if-shares_key.false in
    let same = eq_by_cmp g.P.Ord.cmp in
    let scene = c.in_ok-over.ensures.scene in
    ap (λ w. list_any (same q) w.hostile) scene ∙ c.in_ok-hostile.ensures.members q
    ∙ keys-apart same (eq_by_cmp_equiv total) q c.args.nodes.items c.args.hostile.items (sym (c.in_ok-nodes.ensures.members q) ∙ sym (ap (λ w. list_any (same q) w.nodes) scene) ∙ here)
    (or_false _ _ (ap (λ ns. shares_key g.P.Ord.cmp ns c.args.hostile.items) (sym c.deref.ensures.value) ∙ ap (λ hs. shares_key g.P.Ord.cmp c.deref.result.now hs) (sym c.deref-2.ensures.value) ∙ none)).1

pub returns-clause-nodes : goal.returns-clause-nodes
returns-clause-nodes g c = λ q. ap (λ w. list_any (eq_by_cmp g.P.Ord.cmp q) w.nodes) c.in_ok-over.ensures.scene ∙ c.in_ok-nodes.ensures.members q

pub returns-clause-hostile : goal.returns-clause-hostile
returns-clause-hostile g c = λ q. ap (λ w. list_any (eq_by_cmp g.P.Ord.cmp q) w.hostile) c.in_ok-over.ensures.scene ∙ c.in_ok-hostile.ensures.members q

pub returns-clause-nodes_as_given : goal.returns-clause-nodes_as_given
returns-clause-nodes_as_given g c = λ q. ap (λ w. find (eq_by_cmp g.P.Ord.cmp q) w.nodes) c.in_ok-over.ensures.scene ∙ c.in_ok-nodes.ensures.first_of_equals q

pub returns-clause-hostile_as_given : goal.returns-clause-hostile_as_given
returns-clause-hostile_as_given g c = λ q. ap (λ w. find (eq_by_cmp g.P.Ord.cmp q) w.hostile) c.in_ok-over.ensures.scene ∙ c.in_ok-hostile.ensures.first_of_equals q

pub returns-clause-deque_size : goal.returns-clause-deque_size
returns-clause-deque_size g c = ap (λ w. w.deque_size) c.in_ok-over.ensures.scene

pub returns-clause-range : goal.returns-clause-range
returns-clause-range g c = ap (λ w. w.range) c.in_ok-over.ensures.scene

pub returns-clause-byte_budget : goal.returns-clause-byte_budget
returns-clause-byte_budget g c = ap (λ w. w.byte_budget) c.in_ok-over.ensures.scene
