-- The answer for an image, and its kernel.                                rules: ANSWERS (6 to 14, 25), KERNEL
--     no_header, offset_of    what the header search found: 6
--     unknown_request, undefined_bits, no_addresses, unknown_kind
--                                            the conditions of 7, 25 and 8
--     cut_off, before_image, past_image, bss_below
--                                            the conditions of 9 to 13
--     header_offset, header_flags, found_header, header_fields, first_loaded, count_loaded
--                                            what an image's header says
--     segment_for, kernel_for, fields_kernel    the kernel of an image with address fields
--     is_addressed, kernel_of                   the kernel that an image asks for, by either kind
--     header_checks, load_checks, field_checks, kind_checks
--                                            the checks on the header, and on address fields or ELF
--     image_checks    all of them, in order
-- Assumes nothing.
use Rattle.std.specs.Prelude.{Bool, true, false, cond, not, ◌&&◌, ◌||◌, List, [], ◌∷◌, ◌++◌, ℕ, ◌+◌, ◌-◌, ◌/◌, ◌%◌, ◌^◌, eqb, ltb, length, Option, Some, None}
use Rattle.laws.specs.Checks.{Check, only_if, ◌gives◌}
use Rattle.answer.specs.declared.Refusal.{Refusal}
use Rattle.answer.specs.declared.Refusal.TheVariants.{NoHeader, UnknownRequest, UndefinedBits, NoAddressFields, HeaderCutOff, LoadBeforeImage, LoadPastImage, BssBelowLoadEnd}
use Rattle.address.specs.declared.ImageOffset.{ImageOffset}
use Rattle.header.specs.Header.{search_limit, header}
use Rattle.header.specs.FalseHeader.{false_headers}
use Rattle.kernel.specs.declared.Segment.{Segment}
use Rattle.kernel.specs.declared.FoundHeader.{FoundHeader}
use Rattle.kernel.specs.declared.Kernel.{Kernel}
use Rattle.kernel.specs.Kernel.{kernel_with}
use Rattle.kernel.specs.Checks.{entry_checks}
use Rattle.elf.specs.Elf.{is_elf}
use Rattle.elf.specs.Segments.{elf_kernel}
use Rattle.elf.specs.Checks.{elf_checks}
use Rattle.image.specs.declared.load.AddressFields.{AddressFields}
use Rattle.image.specs.Load.{flags_at, fields_at, on_pages, full_header, load_offset, load_length, load_end, extent_end}

-- 6: no header
abbrev pub no_header : Option ImageOffset → Bool
no_header None = true
no_header (Some o) = false

-- 0 where there is no header
abbrev pub offset_of : Option ImageOffset → ℕ
offset_of None = 0
offset_of (Some o) = o.0

-- 7: any of header flag bits 2 to 15 set
abbrev pub unknown_request : ℕ → Bool
unknown_request flags = not (eqb (flags / 2 ^ 2 % 2 ^ 14) 0)

-- 25: any of header flag bits 17 to 31 set
abbrev pub undefined_bits : ℕ → Bool
undefined_bits flags = not (eqb (flags / 2 ^ 17 % 2 ^ 15) 0)

-- bit 16 clear
abbrev pub no_addresses : ℕ → Bool
no_addresses flags = eqb (flags / 2 ^ 16 % 2) 0

-- 8: bit 16 clear, and no ELF mark
unfoldable pub unknown_kind : List ℕ → ℕ → Bool
unknown_kind image flags = no_addresses flags && not (is_elf image)

-- 9: header offset + 32 beyond 8,192 or beyond the image
abbrev pub cut_off : ℕ → ℕ → Bool
cut_off o n = ltb search_limit (o + full_header) || ltb n (o + full_header)

-- 10: load_addr above header_addr, or header_addr − load_addr above the header's offset
abbrev pub before_image : AddressFields → ℕ → Bool
before_image h o = ltb h.header_addr.0 h.load_addr.0 || ltb o (h.header_addr.0 - h.load_addr.0)

-- 12: load_end_addr nonzero and below load_addr, or load offset + load length beyond the image
abbrev pub past_image : AddressFields → ℕ → ℕ → ℕ → Bool
past_image h offset len n = not (eqb h.load_end_addr.0 0) && ltb h.load_end_addr.0 h.load_addr.0 || ltb n (offset + len)

-- 13: bss_end_addr nonzero and below the load end e
abbrev pub bss_below : AddressFields → ℕ → Bool
bss_below h e = not (eqb h.bss_end_addr.0 0) && ltb h.bss_end_addr.0 e

-- of an image: where its header stands, what that says, and which of the image's bytes are loaded
abbrev pub header_offset : List ℕ → ℕ
header_offset image = offset_of (header image)

abbrev pub header_flags : List ℕ → ℕ
header_flags image = flags_at image (header_offset image)

abbrev pub found_header : List ℕ → FoundHeader
found_header image = record { offset = record { 0 = header_offset image }; false_headers = false_headers image; pages = on_pages (header_flags image) }

abbrev pub header_fields : List ℕ → AddressFields
header_fields image = fields_at image (header_offset image)

abbrev pub first_loaded : List ℕ → ℕ
first_loaded image = load_offset (header_fields image) (header_offset image)

abbrev pub count_loaded : List ℕ → ℕ
count_loaded image = load_length (header_fields image) (first_loaded image) (length image)

-- the segment of `len` bytes from `offset` on: from load_addr to the load end, and the bss behind it
abbrev pub segment_for : AddressFields → ℕ → ℕ → Segment
segment_for h offset len =
    record { start = h.load_addr; load_end = record { 0 = load_end h len }; extent_end = record { 0 = extent_end h len }; offset = record { 0 = offset } }

-- the kernel of the header found: one segment
unfoldable pub kernel_for : AddressFields → FoundHeader → ℕ → ℕ → Kernel
kernel_for h found offset len = kernel_with found h.entry_addr (segment_for h offset len ∷ [])

unfoldable pub fields_kernel : List ℕ → Kernel
fields_kernel image = kernel_for (header_fields image) (found_header image) (first_loaded image) (count_loaded image)

-- flag bit 16 decides between address fields and ELF, also in an ELF image
abbrev pub is_addressed : List ℕ → Bool
is_addressed image = not (no_addresses (header_flags image))

-- the kernel that an image asks for
unfoldable pub kernel_of : List ℕ → Kernel
kernel_of image = cond (is_addressed image) (fields_kernel image) (elf_kernel image (found_header image))

-- the checks on the header: 6, 7, 25 and 8
unfoldable pub header_checks : List ℕ → List (Check Refusal)
header_checks image =
    no_header (header image) gives NoHeader (false_headers image)
    ∷ unknown_request (header_flags image) gives UnknownRequest
    ∷ undefined_bits (header_flags image) gives UndefinedBits
    ∷ unknown_kind image (header_flags image) gives NoAddressFields
    ∷ []

-- the checks on the load of `len` bytes from `offset` on, of an image of n bytes: 12 and 13
unfoldable pub load_checks : AddressFields → ℕ → ℕ → ℕ → List (Check Refusal)
load_checks h offset len n =
    past_image h offset len n gives LoadPastImage
    ∷ bss_below h (load_end h len) gives BssBelowLoadEnd
    ∷ []

-- the checks on address fields: 9 to 13
unfoldable pub field_checks : List ℕ → List (Check Refusal)
field_checks image =
    cut_off (header_offset image) (length image) gives HeaderCutOff
    ∷ before_image (header_fields image) (header_offset image) gives LoadBeforeImage
    ∷ load_checks (header_fields image) (first_loaded image) (count_loaded image) (length image)

-- 9 to 13 for address fields, 18 to 20 for ELF
unfoldable pub kind_checks : List ℕ → List (Check Refusal)
kind_checks image =
    only_if (is_addressed image) (field_checks image)
    ++ only_if (not (is_addressed image)) (elf_checks image (elf_kernel image (found_header image)))

-- all of them, in order
unfoldable pub image_checks : List ℕ → List (Check Refusal)
image_checks image = header_checks image ++ kind_checks image ++ entry_checks (kernel_of image)
