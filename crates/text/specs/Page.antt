-- Where a page stands, and what a function does that lays one text more on it.
use Rattle.std.specs.Prelude.{◌≡◌, List, ℕ, length}
use Rattle.text.specs.Text.{laid, after}
use Rattle.text.specs.declared.page.Page.{Page}

-- what the slice holds, and the position
pub record Place : Type 0 where
  pub bytes : List ℕ
  pub at : ℕ

abbrev pub place : List ℕ → ℕ → Place
place bytes at = record { bytes = bytes; at = at }

abbrev pub place_of : Page → Place
place_of page = place page.buffer.now page.at

-- a text laid from there
unfoldable pub laid_on : Place → List ℕ → Place
laid_on p t = place (laid p.bytes p.at t) (after (length p.bytes) p.at t)

-- the same page, with t laid after what was laid on it
abbrev pub Lays : (t : List ℕ) → (before after : Page) → Type 0
Lays t before after = (after.buffer.ghost_name ≡ before.buffer.ghost_name) × (place_of after ≡ laid_on (place_of before) t)
