-- As equations, so that a place from another PC or from the registers before the first place's update is refused by its difference
-- (must-fail/move_without_its_correction.edit, move_starts_from_the_old_register.edit).
use Rattle.std.proofs.Common.{ap, arith}
use Rattle.opcodes.specs.Mode.{mode_number}
use Rattle.routes.specs.Routes.{route_of, extended_to_indexed, indexed_to_indexed}
use Rattle.routes.proofs.Places.{first, second}
use Rattle.routes.proofs.route_of.Goals as goal

pub returns-in-ExId : goal.returns-in-ExId
unfolding route_of extended_to_indexed
returns-in-ExId c =
    rw (
      c.route_is-in-ExId.ensures,
      c.read_word-in-ExId.ensures,
      c.plain_place-to-in-ExId.ensures,
      first _ _ _ c.plus-in-ExId.result c.requires.faithful (omega (arith, ap mode_number c.in-ExId.is)),
      c.plus-in-ExId.ensures,
      c.plus-next.ensures,
      c.in-ExId.is,
    )

pub returns-in-IdId : goal.returns-in-IdId
unfolding route_of indexed_to_indexed
returns-in-IdId c =
    rw (
      c.route_is-in-IdId.ensures,
      c.plain_place-to-in-IdId.ensures,
      c.read_byte-second.ensures,
      c.plus-next.ensures,
      second _ _ _ c.plus-in-IdId.result c.requires.faithful c.in-IdId.is,
      c.plus-in-IdId.ensures,
      c.plain_place-from-in-IdId.ensures,
      first _ _ _ c.minus-in-IdId.result c.requires.faithful (omega (arith, ap mode_number c.in-IdId.is)),
      c.minus-in-IdId.ensures,
      c.in-IdId.is,
    )
