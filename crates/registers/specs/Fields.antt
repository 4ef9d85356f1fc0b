-- The registers with one byte, or one queue, set to another value.
-- Assumes nothing.
use Rattle.std.specs.Prelude.{ℕ}
use Rattle.queues.specs.declared.queues.Queue.{Queue}
use Rattle.registers.specs.declared.regs.Regs.{Regs}

abbrev pub with_id : ℕ → Regs → Regs
with_id v g = record { id = v; status = g.status; diagnostic = g.diagnostic; mask = g.mask; configuration = g.configuration; setup = g.setup; tentative = g.tentative; nid = g.nid; high = g.high; low = g.low; mode = g.mode; transmit = g.transmit; receive = g.receive; long = g.long; later = g.later }

abbrev pub with_status : ℕ → Regs → Regs
with_status v g = record { id = g.id; status = v; diagnostic = g.diagnostic; mask = g.mask; configuration = g.configuration; setup = g.setup; tentative = g.tentative; nid = g.nid; high = g.high; low = g.low; mode = g.mode; transmit = g.transmit; receive = g.receive; long = g.long; later = g.later }

abbrev pub with_diagnostic : ℕ → Regs → Regs
with_diagnostic v g = record { id = g.id; status = g.status; diagnostic = v; mask = g.mask; configuration = g.configuration; setup = g.setup; tentative = g.tentative; nid = g.nid; high = g.high; low = g.low; mode = g.mode; transmit = g.transmit; receive = g.receive; long = g.long; later = g.later }

abbrev pub with_mask : ℕ → Regs → Regs
with_mask v g = record { id = g.id; status = g.status; diagnostic = g.diagnostic; mask = v; configuration = g.configuration; setup = g.setup; tentative = g.tentative; nid = g.nid; high = g.high; low = g.low; mode = g.mode; transmit = g.transmit; receive = g.receive; long = g.long; later = g.later }

abbrev pub with_configuration : ℕ → Regs → Regs
with_configuration v g = record { id = g.id; status = g.status; diagnostic = g.diagnostic; mask = g.mask; configuration = v; setup = g.setup; tentative = g.tentative; nid = g.nid; high = g.high; low = g.low; mode = g.mode; transmit = g.transmit; receive = g.receive; long = g.long; later = g.later }

abbrev pub with_setup : ℕ → Regs → Regs
with_setup v g = record { id = g.id; status = g.status; diagnostic = g.diagnostic; mask = g.mask; configuration = g.configuration; setup = v; tentative = g.tentative; nid = g.nid; high = g.high; low = g.low; mode = g.mode; transmit = g.transmit; receive = g.receive; long = g.long; later = g.later }

abbrev pub with_tentative : ℕ → Regs → Regs
with_tentative v g = record { id = g.id; status = g.status; diagnostic = g.diagnostic; mask = g.mask; configuration = g.configuration; setup = g.setup; tentative = v; nid = g.nid; high = g.high; low = g.low; mode = g.mode; transmit = g.transmit; receive = g.receive; long = g.long; later = g.later }

abbrev pub with_nid : ℕ → Regs → Regs
with_nid v g = record { id = g.id; status = g.status; diagnostic = g.diagnostic; mask = g.mask; configuration = g.configuration; setup = g.setup; tentative = g.tentative; nid = v; high = g.high; low = g.low; mode = g.mode; transmit = g.transmit; receive = g.receive; long = g.long; later = g.later }

abbrev pub with_high : ℕ → Regs → Regs
with_high v g = record { id = g.id; status = g.status; diagnostic = g.diagnostic; mask = g.mask; configuration = g.configuration; setup = g.setup; tentative = g.tentative; nid = g.nid; high = v; low = g.low; mode = g.mode; transmit = g.transmit; receive = g.receive; long = g.long; later = g.later }

abbrev pub with_low : ℕ → Regs → Regs
with_low v g = record { id = g.id; status = g.status; diagnostic = g.diagnostic; mask = g.mask; configuration = g.configuration; setup = g.setup; tentative = g.tentative; nid = g.nid; high = g.high; low = v; mode = g.mode; transmit = g.transmit; receive = g.receive; long = g.long; later = g.later }

abbrev pub with_mode : ℕ → Regs → Regs
with_mode v g = record { id = g.id; status = g.status; diagnostic = g.diagnostic; mask = g.mask; configuration = g.configuration; setup = g.setup; tentative = g.tentative; nid = g.nid; high = g.high; low = g.low; mode = v; transmit = g.transmit; receive = g.receive; long = g.long; later = g.later }

abbrev pub with_transmit : Queue → Regs → Regs
with_transmit v g = record { id = g.id; status = g.status; diagnostic = g.diagnostic; mask = g.mask; configuration = g.configuration; setup = g.setup; tentative = g.tentative; nid = g.nid; high = g.high; low = g.low; mode = g.mode; transmit = v; receive = g.receive; long = g.long; later = g.later }

abbrev pub with_receive : Queue → Regs → Regs
with_receive v g = record { id = g.id; status = g.status; diagnostic = g.diagnostic; mask = g.mask; configuration = g.configuration; setup = g.setup; tentative = g.tentative; nid = g.nid; high = g.high; low = g.low; mode = g.mode; transmit = g.transmit; receive = v; long = g.long; later = g.later }

abbrev pub with_long : ℕ → Regs → Regs
with_long v g = record { id = g.id; status = g.status; diagnostic = g.diagnostic; mask = g.mask; configuration = g.configuration; setup = g.setup; tentative = g.tentative; nid = g.nid; high = g.high; low = g.low; mode = g.mode; transmit = g.transmit; receive = g.receive; long = v; later = g.later }

abbrev pub with_fetched : ℕ → Regs → Regs
with_fetched v g = record { id = g.id; status = g.status; diagnostic = g.diagnostic; mask = g.mask; configuration = g.configuration; setup = g.setup; tentative = g.tentative; nid = g.nid; high = g.high; low = g.low; mode = g.mode; transmit = g.transmit; receive = g.receive; long = g.long; later = record { fetched = v; naklow = g.later.naklow; nakhigh = g.later.nakhigh } }

abbrev pub with_naks : ℕ → ℕ → Regs → Regs
with_naks low high g = record { id = g.id; status = g.status; diagnostic = g.diagnostic; mask = g.mask; configuration = g.configuration; setup = g.setup; tentative = g.tentative; nid = g.nid; high = g.high; low = g.low; mode = g.mode; transmit = g.transmit; receive = g.receive; long = g.long; later = record { fetched = g.later.fetched; naklow = low; nakhigh = high } }
