-- "No second outcome fits", over the contracts of `card`.
-- Assumes nothing.
use Rattle.card.specs.contracts as contracts
use Rattle.card.proofs.packets as packets
use Rattle.card.proofs.row as row
use Rattle.promises.specs.Once.{FixedBy, Fixed, Once, SamePart}

pub record OfCard : Type 0 where
  pub malformed : Once contracts.packets.Shape.malformed.ended packets.Shape.malformed.Reads.Asked packets.Shape.malformed.Reads.Learnt
  pub storable : Once contracts.packets.Shape.storable.ended packets.Shape.storable.Reads.Asked packets.Shape.storable.Reads.Learnt
  pub page_shape : Fixed contracts.packets.page_shape.ended packets.page_shape.Reads.Learnt
  pub destination : Fixed contracts.packets.destination.ended packets.destination.Reads.Learnt
  pub page_data : FixedBy contracts.packets.page_data.ended (λ κs. SamePart) packets.page_data.Reads.Learnt
  pub may_read_data : Fixed contracts.packets.may_read_data.ended packets.may_read_data.Reads.Learnt
  pub packet_at : Fixed contracts.packets.packet_at.ended packets.packet_at.Reads.Learnt
  pub store_packet : Fixed contracts.packets.store_packet.ended packets.store_packet.Reads.Learnt
  pub stamp : Fixed contracts.packets.stamp.ended packets.stamp.Reads.Learnt
  pub size : Once contracts.row.size.ended row.size.Reads.Asked row.size.Reads.Learnt
  pub load : Fixed contracts.row.load.ended row.load.Reads.Learnt
  pub store : Fixed contracts.row.store.ended row.store.Reads.Learnt
  pub all_zero : Once contracts.row.all_zero.ended row.all_zero.Reads.Asked row.all_zero.Reads.Learnt
  pub fill_zero : Once contracts.row.fill_zero.ended row.fill_zero.Reads.Asked row.fill_zero.Reads.Learnt
  pub well_formed : Fixed contracts.row.well_formed.ended row.well_formed.Reads.Learnt
  pub create : Fixed contracts.row.create.ended row.create.Reads.Learnt
  pub hardware_reset : Fixed contracts.row.hardware_reset.ended row.hardware_reset.Reads.Learnt
  pub read : Fixed contracts.row.read.ended row.read.Reads.Learnt
  pub write : Fixed contracts.row.write.ended row.write.Reads.Learnt
