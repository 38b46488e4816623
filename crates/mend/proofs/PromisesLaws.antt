-- What mending promises holds of what is computed; and what follows for the search and for a second run.
--     mend_promised                the answer and the image afterwards are as promised
--     change_early                 the header that is mended lies in the searched part
--     mended_header                the search on the mended image finds the offset mended
--     second_found, second_kept    a second run finds a header, where the first did not refuse, and changes nothing
--     mend_part, image_part_lem    the searched part alone gives the same answer and gets the same bytes
-- Assumes nothing.
use Rattle.std.specs.Prelude.{◌≡◌, ℕ, ◌+◌, ◌≤◌, List, take, ◌≢◌, refl, Option, Some, None, Ok, Err}
use Rattle.std.proofs.Common.{sym, ap, ◌∙◌, subst, arith}
use Rattle.buffer.specs.PatchedLaws.{take-patched}
use Rattle.number.specs.Number.{number_bytes}
use Rattle.address.specs.declared.ImageOffset.{ImageOffset}
use Rattle.header.specs.Header.{search_limit, header}
use Rattle.header.specs.HeaderAt.{MagicAt, HeaderAt}
use Rattle.header.proofs.SearchLaws.{Answers}
use Rattle.header.proofs.HeaderLaws.{word_take, answers, lowest_header}
use Rattle.header.proofs.FalseHeaderLaws.{header_same}
use Rattle.mend.specs.declared.Change.{Change}
use Rattle.mend.specs.Mending.{Mending}
use Rattle.mend.specs.Mend.{lowest_magic, change_at, mending_by, mending_of, image_with, image_after}
use Rattle.mend.proofs.MagicLaws.{lowest_magic_lem, magic_part}
use Rattle.mend.proofs.MendLaws.{with_header, after_is, mended_at}
use Rattle.mend.specs.Promises.{MendedAt, MendPromised}

module _ (image : List ℕ) where
  promised_by : (r s : Option ImageOffset) → Answers (HeaderAt image) r → Answers (MagicAt image) s
      → MendPromised image (mending_by image r s) (image_with image (mending_by image r s))
  promised_by (Some o) s h g =
      record {
        found = (λ e. (o.0, h.0), λ k. refl);
        none = (λ e. absurd cc, λ n. absurd (n o.0 h.0.magic));
        mended = λ c e. absurd cc;
        left = λ n. refl;
      }
  promised_by None (Some o) h g =
      let v = image_with image (Ok (Some (change_at image o))) in
      record {
        found = (λ e. absurd cc, λ k. absurd (h k.0 k.1));
        none = (λ e. absurd cc, λ n. absurd (n o.0 g.0));
        mended = λ c e. let q : change_at image o ≡ c = cc in subst (λ (d : Change). MendedAt image d v) q (mended_at image o h g);
        left = λ n. absurd (n (change_at image o) refl);
      }
  promised_by None None h g =
      record {
        found = (λ e. absurd cc, λ k. absurd (h k.0 k.1));
        none = (λ e. g, λ n. refl);
        mended = λ c e. absurd cc;
        left = λ n. refl;
      }

  pub mend_promised : MendPromised image (mending_of image) (image_after image)
  unfolding mending_of image_after
  mend_promised = promised_by (header image) (lowest_magic image) (answers image) (lowest_magic_lem image)

  pub change_early : (c : Change) → mending_of image ≡ Ok (Some c) → c.offset.0 + 12 ≤ 8192
  change_early c e = (mend_promised.mended c e).magic.early

  pub mended_header : (c : Change) → mending_of image ≡ Ok (Some c) → header (image_after image) ≡ Some c.offset
  mended_header c e =
      let m = mend_promised.mended c e in
      lowest_header (image_after image) c.offset.0 m.header (λ o l h. m.first o l h.magic)

-- a second run
module _ (image : List ℕ) where
  found_by : (r : Mending) → mending_of image ≡ r → (r ≢ Err (record {})) → mending_of (image_after image) ≡ Ok None
  found_by (Ok None) e n = ap mending_of (after_is image (Ok None) e) ∙ e
  found_by (Ok (Some c)) e n = with_header (image_after image) c.offset (mended_header image c e)
  found_by (Err f) e n = absurd (n refl)

  pub second_found : (mending_of image ≢ Err (record {})) → mending_of (image_after image) ≡ Ok None
  second_found = found_by (mending_of image) refl

  kept_by : (r : Mending) → mending_of image ≡ r → image_after (image_after image) ≡ image_after image
  kept_by (Ok None) e = ap image_after (after_is image (Ok None) e)
  kept_by (Ok (Some c)) e = after_is (image_after image) (Ok None) (found_by (Ok (Some c)) e (λ f. cc))
  kept_by (Err f) e = ap image_after (after_is image (Err f) e)

  pub second_kept : image_after (image_after image) ≡ image_after image
  second_kept = kept_by (mending_of image) refl

-- the searched part alone
module _ (image : List ℕ) where
  abbrev part : List ℕ
  part = take search_limit image

  same_by : (r s : Option ImageOffset) → Answers (MagicAt image) s → mending_by part r s ≡ mending_by image r s
  same_by (Some o) s g = refl
  same_by None None g = refl
  same_by None (Some o) g =
      let l = g.0.early in
      rw (word_take search_limit image (o.0 + 4) (omega arith), word_take search_limit image (o.0 + 8) (omega arith)) refl

  pub mend_part : mending_of part ≡ mending_of image
  unfolding mending_of
  mend_part = rw (header_same image, magic_part image) (same_by (header image) (lowest_magic image) (lowest_magic_lem image))

  with_part : (r : Mending) → image_with part r ≡ take search_limit (image_with image r)
  with_part (Ok None) = refl
  with_part (Ok (Some c)) = sym (take-patched search_limit image (c.offset.0 + 8) (number_bytes 4 c.new))
  with_part (Err e) = refl

  pub image_part_lem : image_after part ≡ take search_limit (image_after image)
  unfolding image_after
  image_part_lem = rw mend_part (with_part (mending_of image))
