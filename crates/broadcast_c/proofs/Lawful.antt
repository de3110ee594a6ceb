-- Equal bytes are one key and one digest.
use Rattle.std.proofs.Common.{◌≡◌, ℕ, true, List, sym, ◌∙◌}
use Rattle.std.specs.Cmp.{on_total}
use Rattle.std.specs.Cmp.Lexicographic.{nat_list_cmp_total}
use Rattle.std.proofs.lemmas.Map.Text.{is_eq-slice_cmp}
use Rattle.std.proofs.lemmas.Slice.Eq.{bytes_eq-Decides}
use Rattle.broadcast_core.proofs.Lawful.{IsLawful, same_by-lawful}
use Rattle.broadcast_c.specs.Storing.{same_bytes}
use Rattle.broadcast_c.specs.declared.store.name.Name.{Name}

-- equal bytes are lawful
pub lawful : IsLawful same_bytes
lawful = same_by-lawful (on_total (λ (name : Name). name.bytes) nat_list_cmp_total) nat_list_cmp_total

-- equal digests are one
pub same_digest : (d e : List ℕ) → same_bytes.digest d e ≡ true → d ≡ e
same_digest d e h = (bytes_eq-Decides d e).0 (sym (is_eq-slice_cmp d e) ∙ h)
