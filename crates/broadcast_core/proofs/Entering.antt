-- Whether a message that is taken enters the cache.
use Rattle.std.proofs.Common.{◌≡◌, Bool, true, false, not, ◌&&◌, sym, ◌∙◌}

-- where nothing changes, nothing enters
pub not-entered : (e b : Bool) → e ≡ false → e ≡ (not b && b)
not-entered e true is = is
not-entered e false is = is

-- a message that is there now has entered if it was not there
pub entered-now : (e was now : Bool) → e ≡ not was → now ≡ true → e ≡ (not was && now)
entered-now e true now is there = is
entered-now e false now is there = is ∙ sym there
