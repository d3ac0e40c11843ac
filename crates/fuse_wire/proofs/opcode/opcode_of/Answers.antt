use Rattle.std.proofs.Common.{arith, sym, ap}
use Rattle.fuse_wire.specs.Opcodes.{opcode_of}
use Rattle.fuse_wire.proofs.OtherOpcodes.{other_opcode}
use Rattle.fuse_wire.proofs.opcode.opcode_of.Goals as goal

pub returns-in-1 : goal.returns-in-1
unfolding opcode_of
returns-in-1 c = sym (ap opcode_of c.in-1.is)

pub returns-in-2 : goal.returns-in-2
unfolding opcode_of
returns-in-2 c = sym (ap opcode_of c.in-2.is)

pub returns-in-3 : goal.returns-in-3
unfolding opcode_of
returns-in-3 c = sym (ap opcode_of c.in-3.is)

pub returns-in-4 : goal.returns-in-4
unfolding opcode_of
returns-in-4 c = sym (ap opcode_of c.in-4.is)

pub returns-in-6 : goal.returns-in-6
unfolding opcode_of
returns-in-6 c = sym (ap opcode_of c.in-6.is)

pub returns-in-8 : goal.returns-in-8
unfolding opcode_of
returns-in-8 c = sym (ap opcode_of c.in-8.is)

pub returns-in-9 : goal.returns-in-9
unfolding opcode_of
returns-in-9 c = sym (ap opcode_of c.in-9.is)

pub returns-in-10 : goal.returns-in-10
unfolding opcode_of
returns-in-10 c = sym (ap opcode_of c.in-10.is)

pub returns-in-11 : goal.returns-in-11
unfolding opcode_of
returns-in-11 c = sym (ap opcode_of c.in-11.is)

pub returns-in-12 : goal.returns-in-12
unfolding opcode_of
returns-in-12 c = sym (ap opcode_of c.in-12.is)

pub returns-in-13 : goal.returns-in-13
unfolding opcode_of
returns-in-13 c = sym (ap opcode_of c.in-13.is)

pub returns-in-14 : goal.returns-in-14
unfolding opcode_of
returns-in-14 c = sym (ap opcode_of c.in-14.is)

pub returns-in-15 : goal.returns-in-15
unfolding opcode_of
returns-in-15 c = sym (ap opcode_of c.in-15.is)

pub returns-in-16 : goal.returns-in-16
unfolding opcode_of
returns-in-16 c = sym (ap opcode_of c.in-16.is)

pub returns-in-17 : goal.returns-in-17
unfolding opcode_of
returns-in-17 c = sym (ap opcode_of c.in-17.is)

pub returns-in-18 : goal.returns-in-18
unfolding opcode_of
returns-in-18 c = sym (ap opcode_of c.in-18.is)

pub returns-in-20 : goal.returns-in-20
unfolding opcode_of
returns-in-20 c = sym (ap opcode_of c.in-20.is)

pub returns-in-25 : goal.returns-in-25
unfolding opcode_of
returns-in-25 c = sym (ap opcode_of c.in-25.is)

pub returns-in-26 : goal.returns-in-26
unfolding opcode_of
returns-in-26 c = sym (ap opcode_of c.in-26.is)

pub returns-in-27 : goal.returns-in-27
unfolding opcode_of
returns-in-27 c = sym (ap opcode_of c.in-27.is)

pub returns-in-28 : goal.returns-in-28
unfolding opcode_of
returns-in-28 c = sym (ap opcode_of c.in-28.is)

pub returns-in-29 : goal.returns-in-29
unfolding opcode_of
returns-in-29 c = sym (ap opcode_of c.in-29.is)

pub returns-in-30 : goal.returns-in-30
unfolding opcode_of
returns-in-30 c = sym (ap opcode_of c.in-30.is)

pub returns-in-34 : goal.returns-in-34
unfolding opcode_of
returns-in-34 c = sym (ap opcode_of c.in-34.is)

pub returns-in-35 : goal.returns-in-35
unfolding opcode_of
returns-in-35 c = sym (ap opcode_of c.in-35.is)

pub returns-in-36 : goal.returns-in-36
unfolding opcode_of
returns-in-36 c = sym (ap opcode_of c.in-36.is)

pub returns-in-38 : goal.returns-in-38
unfolding opcode_of
returns-in-38 c = sym (ap opcode_of c.in-38.is)

pub returns-in-42 : goal.returns-in-42
unfolding opcode_of
returns-in-42 c = sym (ap opcode_of c.in-42.is)

pub returns-in-45 : goal.returns-in-45
unfolding opcode_of
returns-in-45 c = sym (ap opcode_of c.in-45.is)

pub returns-in_default : goal.returns-in_default
returns-in_default c = sym (other_opcode c.args.number (λ e. omega arith, (λ e. omega arith, (λ e. omega arith, (λ e. omega arith, (λ e. omega arith, (λ e. omega arith, (λ e. omega arith, (λ e. omega arith, (λ e. omega arith, (λ e. omega arith, (λ e. omega arith, (λ e. omega arith, (λ e. omega arith, (λ e. omega arith, (λ e. omega arith, (λ e. omega arith, (λ e. omega arith, (λ e. omega arith, (λ e. omega arith, (λ e. omega arith, (λ e. omega arith, (λ e. omega arith, (λ e. omega arith, (λ e. omega arith, (λ e. omega arith, (λ e. omega arith, (λ e. omega arith, (λ e. omega arith, (λ e. omega arith, tt))))))))))))))))))))))))))))))
