-- What the load calculation in 64-bit numbers rests on.
--     Narrow    the address fields are below 2^32
-- Assumes nothing.
use Rattle.std.specs.Prelude.{◌<◌, ◌^◌}
use Rattle.image.specs.declared.load.AddressFields.{AddressFields}

pub record Narrow (h : AddressFields) : Type 0 where
  pub load : h.load_addr.0 < 2 ^ 32
  pub end : h.load_end_addr.0 < 2 ^ 32
