-- Worked examples: what is lent, and what must come out of it, in the plan and in a window of zeros.
--     Input, lent_of, window_of    what is lent: a submission, a memory map and a window                rule: REVIEW
--     Outcome, columns             what comes out: the answer, the plan, and what the kernel is handed and reads
--     refusal                      what comes out of a refusal
--     outcome_of                   what the definitions give
--     Row, long_rows, short_rows, rows
--                                the examples, written `input yields outcome`
-- The columns stand here as plain numbers, so that a number that is wrong in a definition and in the code alike shows.
-- Assumes nothing.
use Rattle.std.specs.Prelude.{Bool, true, false, List, [], ◌∷◌, ◌++◌, ℕ, ◌-◌, take, drop, replicate}
use Rattle.laws.specs.Table.{listed}
use Rattle.buffer.specs.Patched.{patched, zeros}
use Rattle.number.specs.Number.{number_at, number_bytes, word_bytes}
use Rattle.address.specs.Span.{span_no}
use Rattle.answer.specs.Answer.{number_of, item_of}
use Rattle.header.specs.Header.{header_magic}
use Rattle.kernel.specs.declared.Kernel.{Kernel}
use Rattle.kernel.specs.Kernel.{segment_no}
use Rattle.decision.specs.Lent.{Lent}
use Rattle.decision.specs.Plan.{Decision, plan_given}
use Rattle.decision.specs.Decision.{decision_of}
use Rattle.loader.specs.Memory.{memory_after}

-- the version of the submission; an image of so many bytes with a header's words at an offset and zeros elsewhere; whether the
-- module `hello` comes with it, how long its string is, and its ceiling in MiB; how long are the command line and the usable
-- memory from 0 on; where the window begins, and how long it is
pub record Input : Type 0 where
  pub version : ℕ
  pub bytes : ℕ
  pub place : ℕ
  pub words : List ℕ
  pub hello : Bool
  pub string : ℕ
  pub ceiling : ℕ
  pub line : ℕ
  pub low : ℕ
  pub first : ℕ
  pub window : ℕ

abbrev pub image_of : Input → List ℕ
image_of input = patched (replicate input.bytes 0) input.place (word_bytes input.words)

-- a command line or a string: so many letters `a`
abbrev letters : ℕ → List ℕ
letters n = replicate n 0x61

-- the module's entry, and its data with the string
abbrev hello_entry : Bool → ℕ → ℕ → List ℕ
hello_entry true n c = 5 ∷ 0 ∷ 0 ∷ 0 ∷ (number_bytes 2 n ++ number_bytes 2 c)
hello_entry false n c = []

abbrev hello_parts : Bool → ℕ → List ℕ
hello_parts true n = 0x68 ∷ 0x65 ∷ 0x6C ∷ 0x6C ∷ 0x6F ∷ letters n
hello_parts false n = []

abbrev hello_count : Bool → ℕ
hello_count true = 1
hello_count false = 0

abbrev pub submission_of : Input → List ℕ
submission_of input =
    0x4B ∷ 0x53 ∷ 0x42 ∷ (number_bytes 2 input.version ++ (hello_count input.hello ∷ (number_bytes 4 input.bytes ++ (number_bytes 2 input.line
    ++ (hello_entry input.hello input.string input.ceiling ++ (image_of input ++ (letters input.line ++ hello_parts input.hello input.string)))))))

-- two pairs of usable memory, from 0 and from 0x100000 on
abbrev pub board_of : Input → List ℕ
board_of input = word_bytes (20 ∷ 0 ∷ 0 ∷ input.low ∷ 0 ∷ 1 ∷ 20 ∷ 0x100000 ∷ 0 ∷ 0x700000 ∷ 0 ∷ 1 ∷ [])

abbrev pub lent_of : Input → Lent
lent_of input = record { submission = submission_of input; operator = []; map = board_of input; first = input.first; size = input.window }

abbrev pub window_of : Input → List ℕ
window_of input = zeros input.window

-- of a segment: where it begins in the image, and its addresses
pub record Stretch : Type 0 where
  pub offset : ℕ
  pub start : ℕ
  pub load_end : ℕ
  pub extent_end : ℕ

-- of the plan: how many false headers stand below the header, the segments, and the addresses of the entry, the first module
-- and the information block
pub record Places : Type 0 where
  pub false_headers : ℕ
  pub segments : List Stretch
  pub entry : ℕ
  pub module_start : ℕ
  pub module_end : ℕ
  pub block_start : ℕ
  pub block_end : ℕ

-- what the kernel is handed, and what it reads there: words of the information block, and the bytes of the loader's name
pub record Handed : Type 0 where
  pub eax : ℕ
  pub ebx : ℕ
  pub flags : ℕ
  pub mem_lower : ℕ
  pub mem_upper : ℕ
  pub name : List ℕ

pub record Outcome : Type 0 where
  pub number : ℕ
  pub item : ℕ
  pub planned : Places
  pub handed : Handed

abbrev stretch_of : Kernel → ℕ → Stretch
stretch_of k i =
    let s = segment_no k i in
    record { offset = s.offset.0; start = s.start.0; load_end = s.load_end.0; extent_end = s.extent_end.0 }

-- the columns of a decision, where the window holds w from its first address on
unfoldable pub columns : ℕ → Decision → List ℕ → Outcome
columns first d w =
    let p = plan_given d in
    let hello = span_no p.modules 0 in
    let block = drop (p.ebx - first) w in
    record {
      number = number_of d;
      item = item_of d;
      planned = record {
        false_headers = p.kernel.false_headers;
        segments = listed (stretch_of p.kernel) p.kernel.count;
        entry = p.kernel.entry.0;
        module_start = hello.start.0;
        module_end = hello.end.0;
        block_start = p.block.start.0;
        block_end = p.block.end.0;
      };
      handed = record {
        eax = p.eax;
        ebx = p.ebx;
        flags = number_at 4 block 0;
        mem_lower = number_at 4 block 4;
        mem_upper = number_at 4 block 8;
        name = take 8 (drop (number_at 4 block 64 - first) w);
      };
    }

abbrev pub outcome_of : Input → Outcome
outcome_of input = columns input.first (decision_of (lent_of input)) (memory_after (lent_of input) (window_of input))

pub record Row : Type 0 where
  pub input : Input
  pub outcome : Outcome

infix 70 ◌yields◌
abbrev pub ◌yields◌ : Input → Outcome → Row
◌yields◌ i o = record { input = i; outcome = o }

-- offset in the image, start, load end, extent end
abbrev stretch : ℕ → ℕ → ℕ → ℕ → Stretch
stretch offset start load end = record { offset = offset; start = start; load_end = load; extent_end = end }

abbrev loaded : Places → Handed → Outcome
loaded p h = record { number = 0; item = 0; planned = p; handed = h }

-- a refusal by number and item: the plan is zeros, and the kernel would read the zeros of the window
abbrev pub refusal : ℕ → ℕ → Outcome
refusal number item = record {
  number = number;
  item = item;
  planned = record { false_headers = 0; segments = []; entry = 0; module_start = 0; module_end = 0; block_start = 0; block_end = 0 };
  handed = record { eax = 0; ebx = 0; flags = 0; mem_lower = 0; mem_upper = 0; name = zeros 8 };
}

-- a header that loads to 0x100000: header_addr, load_end_addr, bss_end_addr, entry_addr, and eight bytes of code
abbrev loading : ℕ → ℕ → ℕ → ℕ → List ℕ
loading addr end bss entry = header_magic ∷ 0x00010001 ∷ 0xE4514FFD ∷ addr ∷ 0x100000 ∷ end ∷ bss ∷ entry ∷ 0xF4F4F4F4 ∷ 0xF4F4F4F4 ∷ []

-- a header by itself that loads to an address, and is entered there
abbrev alone : ℕ → List ℕ
alone start = header_magic ∷ 0x00010000 ∷ 0xE4514FFE ∷ start ∷ start ∷ 0 ∷ 0 ∷ start ∷ []

-- an ELF image of 136 bytes, by its type and machine, its entry, and the second segment's start and file size: the ELF header,
-- two program headers, which begin with type, offset, virtual and physical address, file and memory size, and behind them a
-- header without address fields and eight bytes of code
abbrev linked : ℕ → ℕ → ℕ → ℕ → List ℕ
linked kind entry start size =
    0x464C457F ∷ 0x00010101 ∷ 0 ∷ 0 ∷ kind ∷ 1 ∷ entry ∷ 0x34 ∷ 0 ∷ 0 ∷ 0x00200034 ∷ 2 ∷ 0
    ∷ 1 ∷ 0 ∷ 0xC0100000 ∷ 0x100000 ∷ 0x88 ∷ 0x90 ∷ 5 ∷ 4
    ∷ 1 ∷ 0x80 ∷ 0xC01000A0 ∷ start ∷ size ∷ 0x10 ∷ 6 ∷ 4
    ∷ header_magic ∷ 0 ∷ 0xE4524FFE ∷ 0xF4F4F4F4 ∷ 0xF4F4F4F4 ∷ []

-- `shelf 1` and a zero
abbrev shelf : List ℕ
shelf = 0x73 ∷ 0x68 ∷ 0x65 ∷ 0x6C ∷ 0x66 ∷ 0x20 ∷ 0x31 ∷ 0 ∷ []

-- no header in the searched part, so that the false headers of all of it count: a header at the place behind the last that is
-- searched, and the magic in every word, the last two without room
unfoldable pub long_rows : List Row
long_rows =
    record { version = 1; bytes = 9000; place = 8184; words = header_magic ∷ 0 ∷ 0xE4524FFE ∷ []; hello = false; string = 0; ceiling = 0; line = 0; low = 0x9FC00; first = 0x100000; window = 0xC000 } yields refusal 6 0
    ∷ record { version = 1; bytes = 8192; place = 0; words = replicate 2048 header_magic; hello = false; string = 0; ceiling = 0; line = 0; low = 0x9FC00; first = 0x100000; window = 0xC000 } yields refusal 6 2046
    ∷ []

unfoldable pub short_rows : List Row
short_rows =
    -- flags 0 has the checksum 0xE4524FFE, and 0x00010001 has 0xE4514FFD: headers, but without address fields, or cut off
    record { version = 1; bytes = 12; place = 0; words = header_magic ∷ 0 ∷ 0xE4524FFE ∷ []; hello = false; string = 0; ceiling = 0; line = 0; low = 0x9FC00; first = 0x100000; window = 0xC000 } yields refusal 8 0
    ∷ record { version = 1; bytes = 12; place = 0; words = header_magic ∷ 0x00010001 ∷ 0xE4514FFD ∷ []; hello = false; string = 0; ceiling = 0; line = 0; low = 0x9FC00; first = 0x100000; window = 0xC000 } yields refusal 9 0
    -- undefined flag bits, where there are no address fields either, and with a sum of 2^33
    ∷ record { version = 1; bytes = 12; place = 0; words = header_magic ∷ 0x00020000 ∷ 0xE4504FFE ∷ []; hello = false; string = 0; ceiling = 0; line = 0; low = 0x9FC00; first = 0x100000; window = 0xC000 } yields refusal 25 0
    ∷ record { version = 1; bytes = 12; place = 0; words = header_magic ∷ 0xFFFF0001 ∷ 0xE4534FFD ∷ []; hello = false; string = 0; ceiling = 0; line = 0; low = 0x9FC00; first = 0x100000; window = 0xC000 } yields refusal 25 0
    -- the last place that is searched
    ∷ record { version = 1; bytes = 9000; place = 8180; words = header_magic ∷ 0 ∷ 0xE4524FFE ∷ []; hello = false; string = 0; ceiling = 0; line = 0; low = 0x9FC00; first = 0x100000; window = 0xC000 } yields refusal 8 0
    -- three false headers in each other's bytes, and one more without room; one before a header
    ∷ record { version = 1; bytes = 20; place = 0; words = header_magic ∷ header_magic ∷ header_magic ∷ header_magic ∷ []; hello = false; string = 0; ceiling = 0; line = 0; low = 0x9FC00; first = 0x100000; window = 0xC000 } yields refusal 6 3
    ∷ record { version = 1; bytes = 56; place = 0; words = header_magic ∷ 0 ∷ 0 ∷ 0 ∷ loading 0x100010 0 0 0x100020; hello = false; string = 0; ceiling = 0; line = 0; low = 0x9FC00; first = 0x100000; window = 0xC000 }
    yields loaded
    (record { false_headers = 1; segments = stretch 0 0x100000 0x100038 0x100038 ∷ []; entry = 0x100020; module_start = 0; module_end = 0; block_start = 0x100038; block_end = 0x1000C8 })
    (record { eax = 0x2BADB002; ebx = 0x100038; flags = 0x249; mem_lower = 639; mem_upper = 7168; name = shelf })
    -- a load that begins with the image, and one that would begin before it
    ∷ record { version = 1; bytes = 56; place = 16; words = loading 0x100010 0 0 0x100020; hello = false; string = 0; ceiling = 0; line = 0; low = 0x9FC00; first = 0x100000; window = 0xC000 }
    yields loaded
    (record { false_headers = 0; segments = stretch 0 0x100000 0x100038 0x100038 ∷ []; entry = 0x100020; module_start = 0; module_end = 0; block_start = 0x100038; block_end = 0x1000C8 })
    (record { eax = 0x2BADB002; ebx = 0x100038; flags = 0x249; mem_lower = 639; mem_upper = 7168; name = shelf })
    ∷ record { version = 1; bytes = 56; place = 12; words = loading 0x100010 0 0 0x100020; hello = false; string = 0; ceiling = 0; line = 0; low = 0x9FC00; first = 0x100000; window = 0xC000 } yields refusal 10 0
    -- B1 with a load end, a bss end and an entry one too far
    ∷ record { version = 1; bytes = 40; place = 0; words = loading 0x100000 0x100029 0x100030 0x100020; hello = true; string = 1; ceiling = 0; line = 0; low = 0x9FC00; first = 0x100000; window = 0xC000 } yields refusal 12 0
    ∷ record { version = 1; bytes = 40; place = 0; words = loading 0x100000 0 0x100027 0x100020; hello = true; string = 1; ceiling = 0; line = 0; low = 0x9FC00; first = 0x100000; window = 0xC000 } yields refusal 13 0
    ∷ record { version = 1; bytes = 40; place = 0; words = loading 0x100000 0 0x100030 0x100028; hello = true; string = 1; ceiling = 0; line = 0; low = 0x9FC00; first = 0x100000; window = 0xC000 } yields refusal 14 0
    -- B1 in windows that are just long enough for its module, and one byte short
    ∷ record { version = 1; bytes = 40; place = 0; words = loading 0x100000 0 0x100030 0x100020; hello = true; string = 1; ceiling = 0; line = 0; low = 0x9FC00; first = 0x100000; window = 0x1005 }
    yields loaded
    (record { false_headers = 0; segments = stretch 0 0x100000 0x100028 0x100030 ∷ []; entry = 0x100020; module_start = 0x101000; module_end = 0x101005; block_start = 0x100030; block_end = 0x1000D2 })
    (record { eax = 0x2BADB002; ebx = 0x100030; flags = 0x249; mem_lower = 639; mem_upper = 7168; name = shelf })
    ∷ record { version = 1; bytes = 40; place = 0; words = loading 0x100000 0 0x100030 0x100020; hello = true; string = 1; ceiling = 0; line = 0; low = 0x9FC00; first = 0x100000; window = 0x1004 } yields refusal 16 0
    -- without its module, in windows that are just long enough for the information block, and one byte short
    ∷ record { version = 1; bytes = 40; place = 0; words = loading 0x100000 0 0x100030 0x100020; hello = false; string = 0; ceiling = 0; line = 0; low = 0x9FC00; first = 0x100000; window = 0xC0 }
    yields loaded
    (record { false_headers = 0; segments = stretch 0 0x100000 0x100028 0x100030 ∷ []; entry = 0x100020; module_start = 0; module_end = 0; block_start = 0x100030; block_end = 0x1000C0 })
    (record { eax = 0x2BADB002; ebx = 0x100030; flags = 0x249; mem_lower = 639; mem_upper = 7168; name = shelf })
    ∷ record { version = 1; bytes = 40; place = 0; words = loading 0x100000 0 0x100030 0x100020; hello = false; string = 0; ceiling = 0; line = 0; low = 0x9FC00; first = 0x100000; window = 0xBF } yields refusal 17 0
    -- the same with 641 KiB of usable memory from 0 on, of which the kernel is told 640
    ∷ record { version = 1; bytes = 40; place = 0; words = loading 0x100000 0 0x100030 0x100020; hello = false; string = 0; ceiling = 0; line = 0; low = 0xA0400; first = 0x100000; window = 0xC0 }
    yields loaded
    (record { false_headers = 0; segments = stretch 0 0x100000 0x100028 0x100030 ∷ []; entry = 0x100020; module_start = 0; module_end = 0; block_start = 0x100030; block_end = 0x1000C0 })
    (record { eax = 0x2BADB002; ebx = 0x100030; flags = 0x249; mem_lower = 640; mem_upper = 7168; name = shelf })
    -- a kernel that ends at 0x500, and one that begins a byte below it, in usable memory; one at 0x500 passes 15, and a window
    -- below 1 MiB has no room for the information block
    ∷ record { version = 1; bytes = 32; place = 0; words = alone 0x4E0; hello = false; string = 0; ceiling = 0; line = 0; low = 0x9FC00; first = 0; window = 0x800 } yields refusal 15 0
    ∷ record { version = 1; bytes = 32; place = 0; words = alone 0x4FF; hello = false; string = 0; ceiling = 0; line = 0; low = 0x9FC00; first = 0; window = 0x800 } yields refusal 15 0
    ∷ record { version = 1; bytes = 32; place = 0; words = alone 0x500; hello = false; string = 0; ceiling = 0; line = 0; low = 0x9FC00; first = 0; window = 0x800 } yields refusal 17 0
    -- the longest command line, and one byte more
    ∷ record { version = 1; bytes = 40; place = 0; words = loading 0x100000 0 0x100030 0x100020; hello = false; string = 0; ceiling = 0; line = 255; low = 0x9FC00; first = 0x100000; window = 0x1C0 }
    yields loaded
    (record { false_headers = 0; segments = stretch 0 0x100000 0x100028 0x100030 ∷ []; entry = 0x100020; module_start = 0; module_end = 0; block_start = 0x100030; block_end = 0x1001C0 })
    (record { eax = 0x2BADB002; ebx = 0x100030; flags = 0x24D; mem_lower = 639; mem_upper = 7168; name = shelf })
    ∷ record { version = 1; bytes = 40; place = 0; words = loading 0x100000 0 0x100030 0x100020; hello = false; string = 0; ceiling = 0; line = 256; low = 0x9FC00; first = 0x100000; window = 0xC000 } yields refusal 2 0
    -- B1 with the longest string, and one byte more
    ∷ record { version = 1; bytes = 40; place = 0; words = loading 0x100000 0 0x100030 0x100020; hello = true; string = 127; ceiling = 0; line = 0; low = 0x9FC00; first = 0x100000; window = 0x1005 }
    yields loaded
    (record { false_headers = 0; segments = stretch 0 0x100000 0x100028 0x100030 ∷ []; entry = 0x100020; module_start = 0x101000; module_end = 0x101005; block_start = 0x100030; block_end = 0x100150 })
    (record { eax = 0x2BADB002; ebx = 0x100030; flags = 0x249; mem_lower = 639; mem_upper = 7168; name = shelf })
    ∷ record { version = 1; bytes = 40; place = 0; words = loading 0x100000 0 0x100030 0x100020; hello = true; string = 128; ceiling = 0; line = 0; low = 0x9FC00; first = 0x100000; window = 0xC000 } yields refusal 2 0
    -- version 2: under a ceiling of 2 MiB the module ends three bytes below it, and the information block stands above; one word
    -- higher it would end a byte above it, so that there is no room, and without a ceiling there is
    ∷ record { version = 2; bytes = 32; place = 0; words = alone 0x1FFFD8; hello = true; string = 1; ceiling = 2; line = 0; low = 0x9FC00; first = 0x1FFFD8; window = 0xCA }
    yields loaded
    (record { false_headers = 0; segments = stretch 0 0x1FFFD8 0x1FFFF8 0x1FFFF8 ∷ []; entry = 0x1FFFD8; module_start = 0x1FFFF8; module_end = 0x1FFFFD; block_start = 0x200000; block_end = 0x2000A2 })
    (record { eax = 0x2BADB002; ebx = 0x200000; flags = 0x249; mem_lower = 639; mem_upper = 7168; name = shelf })
    ∷ record { version = 2; bytes = 32; place = 0; words = alone 0x1FFFDC; hello = true; string = 1; ceiling = 2; line = 0; low = 0x9FC00; first = 0x1FFFDC; window = 0xCA } yields refusal 16 0
    ∷ record { version = 2; bytes = 32; place = 0; words = alone 0x1FFFDC; hello = true; string = 1; ceiling = 0; line = 0; low = 0x9FC00; first = 0x1FFFDC; window = 0xCA }
    yields loaded
    (record { false_headers = 0; segments = stretch 0 0x1FFFDC 0x1FFFFC 0x1FFFFC ∷ []; entry = 0x1FFFDC; module_start = 0x1FFFFC; module_end = 0x200001; block_start = 0x200004; block_end = 0x2000A6 })
    (record { eax = 0x2BADB002; ebx = 0x200004; flags = 0x249; mem_lower = 639; mem_upper = 7168; name = shelf })
    -- a ceiling in version 1, and version 3
    ∷ record { version = 1; bytes = 32; place = 0; words = alone 0x1FFFD8; hello = true; string = 1; ceiling = 2; line = 0; low = 0x9FC00; first = 0x1FFFD8; window = 0xCA } yields refusal 2 0
    ∷ record { version = 3; bytes = 32; place = 0; words = alone 0x1FFFD8; hello = true; string = 1; ceiling = 2; line = 0; low = 0x9FC00; first = 0x1FFFD8; window = 0xCA } yields refusal 1 0
    -- an ELF image of two segments, with the module between them and the information block behind
    ∷ record { version = 1; bytes = 136; place = 0; words = linked 0x00030002 0x100080 0x1000A0 4; hello = true; string = 1; ceiling = 0; line = 0; low = 0x9FC00; first = 0x100000; window = 0x152 }
    yields loaded
    (record { false_headers = 0; segments = stretch 0 0x100000 0x100088 0x100090 ∷ stretch 0x80 0x1000A0 0x1000A4 0x1000B0 ∷ []; entry = 0x100080; module_start = 0x100090; module_end = 0x100095; block_start = 0x1000B0; block_end = 0x100152 })
    (record { eax = 0x2BADB002; ebx = 0x1000B0; flags = 0x249; mem_lower = 639; mem_upper = 7168; name = shelf })
    -- another type, file bytes past the image, segments that share one byte, and an entry in the zeros of the first
    ∷ record { version = 1; bytes = 136; place = 0; words = linked 0x00030003 0x100080 0x1000A0 4; hello = true; string = 1; ceiling = 0; line = 0; low = 0x9FC00; first = 0x100000; window = 0xC000 } yields refusal 18 0
    ∷ record { version = 1; bytes = 136; place = 0; words = linked 0x00030002 0x100080 0x1000A0 9; hello = true; string = 1; ceiling = 0; line = 0; low = 0x9FC00; first = 0x100000; window = 0xC000 } yields refusal 19 0
    ∷ record { version = 1; bytes = 136; place = 0; words = linked 0x00030002 0x100080 0x10008F 4; hello = true; string = 1; ceiling = 0; line = 0; low = 0x9FC00; first = 0x100000; window = 0xC000 } yields refusal 20 0
    ∷ record { version = 1; bytes = 136; place = 0; words = linked 0x00030002 0x100088 0x1000A0 4; hello = true; string = 1; ceiling = 0; line = 0; low = 0x9FC00; first = 0x100000; window = 0xC000 } yields refusal 14 0
    ∷ []

abbrev pub rows : List Row
rows = long_rows ++ short_rows
