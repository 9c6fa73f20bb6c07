-- What always holds of the fields of the driver's transmit pages. No public clause cites this module.
use Rattle.std.specs.Prelude.{◌≤◌, length, vec_capacity}
use Rattle.vs_driver_parts.specs.declared.pages.Pages.TheInside.{Inside}

-- At most as many pages are free as the queue has descriptors, and each that comes back has its place.
pub record AreCounted (p : Inside) : Type 0 where
  pub free : length p.free.items ≤ p.size
  pub room : p.size ≤ vec_capacity p.free
