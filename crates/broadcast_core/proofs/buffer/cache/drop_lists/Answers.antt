use Rattle.std.proofs.Common.{◌≡◌, ◌+◌, [], ◌∷◌, ◌++◌, take, sym, ap, ◌∙◌, arith, subst}
use Rattle.std.specs.Cmp.{eq_by_cmp_equiv}
use Rattle.std.proofs.lemmas.List.{take_all, take_more}
use Rattle.std.specs.Map.{lookup}
use Rattle.std.specs.Ordering.{eq_by_cmp}
use Rattle.broadcast_core.specs.Content.{same_by}
use Rattle.broadcast_core.specs.Stored.{is_stored}
use Rattle.broadcast_core.specs.Numbered.{named_of}
use Rattle.broadcast_core.proofs.Numbering.{cached_named, distinct_peers}
use Rattle.broadcast_core.proofs.Dropping.{Dropping, Dropping-start, Dropping-leaves, Dropping-stays, Drops-made, fewer_from}
use Rattle.broadcast_core.proofs.Parting.{Sheds-none, Adds-fewer}
use Rattle.broadcast_core.proofs.buffer.cache.drop_lists.Goals as goal
use Rattle.broadcast_core.proofs.buffer.cache.drop_lists.Goals.{then-not-is_there, else-not-is_there}

pub loop-peer-init : goal.loop-peer-init
loop-peer-init g c = (
  Dropping-start (same_by g.P.Ord.cmp g.M.Digest.Ord.cmp) c.args.peers.now (named_of c.args.numbers.now c.args.shelf.now.stored),
  Sheds-none (eq_by_cmp g.M.Digest.Ord.cmp) c.args.shelf.now,
  c.requires,
)

pub loop-peer-preserved : goal.loop-peer-preserved
loop-peer-preserved g c =
    let same = same_by g.P.Ord.cmp g.M.Digest.Ord.cmp in
    let key_laws = eq_by_cmp_equiv g.met.P.Ord.total in
    let seen = take c.loop-peer.peer-index c.args.was.now in
    let old = c.args.shelf.now in
    let mid = c.loop-peer.shelf in
    let first = named_of c.args.numbers.now old.stored in
    let now = named_of c.loop-peer.numbers mid.stored in
    let more : take (c.loop-peer.peer-index + 1) c.args.was.now ≡ seen ++ c.peer-item.result ∷ [] =
    take_more c.args.was.now c.loop-peer.peer-index c.peer-item.result c.loop-peer-test.true ∙ ap (λ p. seen ++ p ∷ []) (sym c.peer-item.is) in
    elim c.if-not-is_there.branch [
      | then-not-is_there w ↦
          let new = w.drop_list.new.shelf in
          let shed = w.drop_list.ensures.sheds in
          let drops = w.drop_list.ensures.dropped in
          rw (w.numbers-is, w.shelf-is) (
            subst (λ ps. Dropping same ps c.args.peers.now first (named_of w.drop_list.new.numbers new.stored)) (sym more)
                (Dropping-leaves same key_laws seen c.args.peers.now first now c.loop-peer.invariant.0 c.peer-item.result
                (named_of w.drop_list.new.numbers new.stored) (sym c.seek-next.ensures ∙ w.if-not-is_there.true) drops),
            record {
              deque_size = shed.deque_size ∙ c.loop-peer.invariant.1.deque_size;
              byte_budget = shed.byte_budget ∙ c.loop-peer.invariant.1.byte_budget;
              left = Adds-fewer same.digest old.stored.messages mid.stored.messages new.stored.messages old.left mid.left new.left c.loop-peer.invariant.1.left shed.left c.loop-peer.invariant.0.fewer
                  (λ d y h. fewer_from (is_stored same d (named_of w.drop_list.new.numbers new.stored).lists) (lookup (same.digest d) mid.stored.messages) (lookup (same.digest d) new.stored.messages) (drops.messages d) y h);
            },
            w.drop_list.ensures.numbered,
          )
      | else-not-is_there w ↦ rw (w.numbers-is, w.shelf-is) (
        subst (λ ps. Dropping same ps c.args.peers.now first now) (sym more)
            (Dropping-stays same key_laws seen c.args.peers.now first now c.loop-peer.invariant.0 c.peer-item.result
            (sym c.seek-next.ensures ∙ w.if-not-is_there.false)),
        c.loop-peer.invariant.1,
        c.loop-peer.invariant.2,
      )
    ]

pub returns-clause-dropped : goal.returns-clause-dropped
returns-clause-dropped g c =
    let same = same_by g.P.Ord.cmp g.M.Digest.Ord.cmp in
    let key_laws = eq_by_cmp_equiv g.met.P.Ord.total in
    let laws = eq_by_cmp_equiv (g.met.M.Digest.Ord g.world.𝓛 g.world.𝓜 g.world.𝓡 (λ s x. x, λ x. x, λ x. x, λ x. x)).total in
    let all = take_all c.loop-peer.peer-index c.args.was.now (omega arith) in
    let first = named_of c.args.numbers.now c.args.shelf.now.stored in
    let last = named_of c.loop-peer.numbers c.loop-peer.shelf.stored in
    Drops-made same key_laws laws c.args.was.now c.args.peers.now first last
    (cached_named g.P.Ord.cmp g.M.Digest.Ord.cmp key_laws c.loop-peer.numbers c.loop-peer.shelf.stored c.loop-peer.invariant.2) (distinct_peers g.P.Ord.cmp g.M.Digest.Ord.cmp key_laws c.loop-peer.numbers c.loop-peer.shelf.stored c.loop-peer.invariant.2)
    (subst (λ ps. Dropping same ps c.args.peers.now first last) all c.loop-peer.invariant.0)
