-- `propose` meets its contract: the place is known, or has joined with an action no higher, or with a higher one, or joins now.
use Prim.Native.Nat.{◌<◌}
use mathlib.Core.Bool.{false}
use mathlib.Core.Path.{◌≡◌, ap}
use native.Mathlib.Omega.{arith}
use Rattle.sets.specs.Sets.{set_room, member}
use Rattle.game.specs.declared.entry.Entry.{Entry}
use Rattle.backward.proofs.Noting.{has_known, only_known, only_kept, only_lower, only_new}
use Rattle.backward.proofs.Queuing.{queue_room, joined_none, joined_put}
use Rattle.backward.proofs.note.propose.Goals as goal

pub returns-then-has : goal.returns-then-has
returns-then-has c = (
  λ n m hx ha. only_known c.args.x c.args.action hx ha
      (has_known c.args.known.now.words c.requires.x_lt_set_room c.has.ensures c.if-has.true),
  joined_none c.requires.queue,
)

pub returns-then-e-action : goal.returns-then-e-action
returns-then-e-action c =
    let e = ap (λ (w : Entry). w.action) c.read_entry-e.ensures in (
      λ n m hx ha. only_kept c.args.x c.args.action hx ha
          (has_known c.args.known.now.words c.requires.x_lt_set_room c.has.ensures c.if-has.false)
          (has_known c.args.new.now.words c.requires.x_lt_set_room c.has-2.ensures c.if-has-2.true)
          (omega (arith, e, c.if-e-action.true)),
      joined_none c.requires.queue,
    )

pub returns-then-has-2 : goal.returns-then-has-2
returns-then-has-2 c =
    let e = ap (λ (w : Entry). w.action) c.read_entry-e.ensures in (
      λ n m hx ha. only_lower c.args.x c.args.action hx ha
          (has_known c.args.known.now.words c.requires.x_lt_set_room c.has.ensures c.if-has.false)
          (has_known c.args.new.now.words c.requires.x_lt_set_room c.has-2.ensures c.if-has-2.true)
          (omega (arith, e, c.if-e-action.false)) (rw c.number.ensures at c.write_entry.ensures),
      joined_none c.requires.queue,
    )

pub offset_bounds-queue-tail : goal.offset_bounds-queue-tail
offset_bounds-queue-tail c =
    let unjoined : member c.args.new.now.words c.args.x ≡ false =
    has_known c.args.new.now.words c.requires.x_lt_set_room c.has-2.ensures c.if-has-2.false in
    let room : c.args.tail < set_room =
    queue_room c.requires.queue (unjoined) c.requires.x_lt_set_room in
    omega (arith, room)

pub bounds-queue-tail : goal.bounds-queue-tail
bounds-queue-tail c =
    let unjoined : member c.args.new.now.words c.args.x ≡ false =
    has_known c.args.new.now.words c.requires.x_lt_set_room c.has-2.ensures c.if-has-2.false in
    let room : c.args.tail < set_room =
    queue_room c.requires.queue (unjoined) c.requires.x_lt_set_room in
    room

pub overflow_add-result : goal.overflow_add-result
overflow_add-result c =
    let unjoined : member c.args.new.now.words c.args.x ≡ false =
    has_known c.args.new.now.words c.requires.x_lt_set_room c.has-2.ensures c.if-has-2.false in
    let room : c.args.tail < set_room =
    queue_room c.requires.queue (unjoined) c.requires.x_lt_set_room in
    omega (arith, room)

pub returns : goal.returns
returns c =
    let unjoined : member c.args.new.now.words c.args.x ≡ false =
    has_known c.args.new.now.words c.requires.x_lt_set_room c.has-2.ensures c.if-has-2.false in (
      λ n m hx ha. only_new c.args.x c.args.action hx ha
          (has_known c.args.known.now.words c.requires.x_lt_set_room c.has.ensures c.if-has.false)
          (unjoined)
          c.requires.x_lt_set_room c.put.ensures (rw c.number.ensures at c.write_entry-2.ensures),
      joined_put c.requires.queue (unjoined) c.requires.x_lt_set_room c.put.ensures,
    )
