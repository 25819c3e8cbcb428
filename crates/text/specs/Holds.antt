-- What a buffer and a position are after texts were laid one after the other from the start: as if `t`, all of them together, had been laid
-- at once. `start` is the buffer as it was before the first.
use Rattle.std.specs.Prelude.{◌≡◌, List, ℕ, length}
use Rattle.text.specs.Text.{laid, after}

pub record Holds (start t buffer : List ℕ) (at : ℕ) : Type 0 where
  -- t in front, as far as the buffer reaches, and what lies past it untouched
  pub bytes : buffer ≡ laid start 0 t
  -- past the end where t has no room
  pub position : at ≡ after (length start) 0 t
