-- What a command carries: no unnamed bit; and the commands of some bytes.
-- Assumes nothing.
use mathlib.Core.Path.{◌≡◌, refl, ◌∙◌}
use mathlib.Core.Bool.{Bool, true, false}
use Prim.Native.Nat.{ℕ, ◌-◌, ◌<◌}
use native.Mathlib.Omega.{arith}
use lib.Bits.{bit_and}
use lib.Dec.{eqb}
use Rattle.bits.specs.declared.way.Way.TheVariants.{Transmit, Receive}
use Rattle.std.proofs.Common.{Option, Some, None}
use Rattle.commands.specs.declared.commands.Command.{Command}
use Rattle.commands.specs.declared.commands.Command.TheVariants.{Disable, Enable, LongPackets, ClearFlags, Clear}
use Rattle.bits.specs.Words.{has, raise_if}
use Rattle.bits.specs.Flags.{BROADCASTS, only, transmit_bits, receive_bits}
use Rattle.bits.specs.Flags.{oldest_bits}
use Rattle.commands.specs.Commands.{page_of, command_of}
use Rattle.bits.proofs.Words.Bools.{pick_of}
use Rattle.bits.proofs.Words.Table.{low2}
use Rattle.bits.proofs.Words.Masks.{raise_other}

-- a receive page with its broadcasts bit
wanted : (p : ℕ) → only receive_bits p ≡ true → (b : Bool) → only receive_bits (raise_if b BROADCASTS p) ≡ true
wanted p w true = raise_other (255 - receive_bits) BROADCASTS p refl ∙ w
wanted p w false = w

-- what a decoded command carries has no unnamed bit
abbrev pub Small : Option Command → Type 0
Small None = Unit
Small (Some (Disable w)) = Unit
Small (Some (Enable w entry)) = only (oldest_bits w) entry ≡ true
Small (Some (LongPackets l)) = l < 2
Small (Some (ClearFlags p r)) = Unit
Small (Some (Clear w)) = Unit

pub small : (c : ℕ) → Small (command_of c)
unfolding command_of
small c =
    let page : page_of c < 4 = omega arith in
    pick_of Small (eqb c 0x00) (λ _. tt)
    (λ _. pick_of Small (eqb c 0x08) (λ _. tt)
    (λ _. pick_of Small (eqb c 0x01) (λ _. tt)
    (λ _. pick_of Small (eqb c 0x02) (λ _. tt)
    (λ _. pick_of Small (eqb (bit_and c 0xd7) 0x03) (λ _. low2 transmit_bits refl refl refl refl (page_of c) page)
    (λ _. pick_of Small (eqb (bit_and c 0x57) 0x04) (λ _. wanted (page_of c) (low2 receive_bits refl refl refl refl (page_of c) page) (has 0x80 c))
    (λ _. pick_of Small (eqb (bit_and c 0xf7) 0x05) (λ _. omega arith)
    (λ _. pick_of Small (eqb (bit_and c 0xe7) 0x06) (λ _. tt) (λ _. tt))))))))

-- ---- document 01's sums, and the commands that loading and a Clear Flags write
pub page_2c : command_of 0x2c ≡ Some (Enable Receive 3)
unfolding command_of
page_2c = refl

pub page_0b : command_of 0x0b ≡ Some (Enable Transmit 2)
unfolding command_of
page_0b = refl

pub command_0d : command_of 0x0d ≡ Some (LongPackets 1)
unfolding command_of
command_0d = refl

pub command_84 : command_of 0x84 ≡ Some (Enable Receive BROADCASTS)
unfolding command_of
command_84 = refl

pub command_0e : command_of 0x0e ≡ Some (ClearFlags true false)
unfolding command_of
command_0e = refl
