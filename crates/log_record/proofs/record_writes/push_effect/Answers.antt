use Rattle.std.proofs.Common.{ap, arith, length}
use Rattle.log_record.proofs.Lengths.{effect_size, length-effect_bytes}
use Rattle.log_record.proofs.record_writes.push_effect.Goals as goal

pub push_make-requires : goal.push_make-requires
push_make-requires c = omega (arith, c.requires.room, length-effect_bytes c.args.effect.now, ap effect_size c.in-Make.is)

pub push_enter-requires-clause-room : goal.push_enter-requires-clause-room
push_enter-requires-clause-room c = omega (arith, c.requires.room, length-effect_bytes c.args.effect.now, ap effect_size c.in-Enter.is, ap length c.as_slice.ensures.bytes)

pub push_leave-requires-clause-room : goal.push_leave-requires-clause-room
push_leave-requires-clause-room c = omega (arith, c.requires.room, length-effect_bytes c.args.effect.now, ap effect_size c.in-Leave.is, ap length c.as_slice-in-Leave.ensures.bytes)

pub push_names-requires : goal.push_names-requires
push_names-requires c = omega (arith, c.requires.room, length-effect_bytes c.args.effect.now, ap effect_size c.in-Names.is)

pub push_size-requires : goal.push_size-requires
push_size-requires c = omega (arith, c.requires.room, length-effect_bytes c.args.effect.now, ap effect_size c.in-Size.is)

pub push_bytes-requires-clause-room : goal.push_bytes-requires-clause-room
push_bytes-requires-clause-room c = omega (arith, c.requires.room, length-effect_bytes c.args.effect.now, ap effect_size c.in-Bytes.is, ap length c.as_slice-in-Bytes.ensures)

pub push_head-requires : goal.push_head-requires
push_head-requires c = omega (arith, c.requires.room, length-effect_bytes c.args.effect.now, ap effect_size c.in-Drop.is)

pub push_swap-requires-clause-room : goal.push_swap-requires-clause-room
push_swap-requires-clause-room c =
    omega (arith, c.requires.room, length-effect_bytes c.args.effect.now, ap effect_size c.in-Swap.is, ap length c.as_slice-in-Swap.ensures.bytes, ap length c.as_slice-in-Swap-2.ensures.bytes)
