-- What always holds of the fields of a device. No public clause cites this module.
use Rattle.std.specs.{Prelude.◌≡◌, Prelude.◌≤◌, Prelude.length, String.string_bytes}
use Rattle.vs_limits.specs.declared.TheConstants.{BUF_ALLOC_MAX, DEVICE_REPLIES}
use Rattle.vs_uds.specs.declared.path.TheConstants.{BASE_MAX}
use Rattle.vs_device.specs.declared.device.Device.TheInside.{Inside}

-- There is room for all replies that may be owed, and for the largest payload.
pub record AreSound (d : Inside) : Type 0 where
  pub base : length (string_bytes d.base) ≤ BASE_MAX
  pub replies : d.replies.capacity ≡ DEVICE_REPLIES
  pub scratch : length d.scratch.items ≡ BUF_ALLOC_MAX
