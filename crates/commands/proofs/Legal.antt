-- The twenty bytes of document 01, and in a chaining row the two of C-11, are those that the bit layout takes for a command, and no others.
-- Assumes nothing.
use mathlib.Core.Path.{◌≡◌, refl}
use mathlib.Core.Bool.{true, false, not}
use mathlib.Core.List.{List, ◌++◌}
use Prim.Native.Nat.{ℕ, ◌<◌}
use lib.ListN.{get_or}
use Rattle.std.proofs.Common.{None, eqb, find, option_map, unwrap_or}
use Rattle.commands.specs.declared.commands.Command.TheVariants.{ClearFlags}
use Rattle.commands.specs.declared.commands.Command.{Command}
use Rattle.bits.specs.Words.{among}
use Rattle.commands.specs.Commands.{command_of, legal_bytes, chain_bytes, illegal}
use Rattle.bits.proofs.Words.Table.{tab, by_table}

abbrev pub command_bytes : List ℕ
command_bytes = legal_bytes ++ chain_bytes

-- a byte is listed where it is a command, and nowhere else
pub chain_legal : (c : ℕ) → c < 256 → illegal true (command_of c) ≡ not (among command_bytes c)
unfolding command_of
chain_legal = by_table false (λ c. illegal true (command_of c)) (λ c. not (among command_bytes c)) 256 refl

pub plain_legal : (c : ℕ) → c < 256 → illegal false (command_of c) ≡ not (among legal_bytes c)
unfolding command_of
plain_legal = by_table false (λ c. illegal false (command_of c)) (λ c. not (among legal_bytes c)) 256 refl

-- the constant table is that of the bytes, each with its command: antt computes the one from the other
abbrev row : ℕ → ℕ × Command
row i = (get_or command_bytes i 0, unwrap_or (command_of (get_or command_bytes i 0)) (ClearFlags false false))

abbrev pub table : List (ℕ × Command)
table = tab (0, ClearFlags false false) row 0 22

-- what a byte is found with
pub found : (c : ℕ) → c < 256 → option_map (λ (l : ℕ × Command). l.1) (find (λ (l : ℕ × Command). eqb l.0 c) table) ≡ command_of c
unfolding command_of
found = by_table None (λ c. option_map (λ (l : ℕ × Command). l.1) (find (λ (l : ℕ × Command). eqb l.0 c) table)) command_of 256 refl
