-- The second promise, for the information block: what a kernel reads back from the window.
--     read-back    for every load into a window of its size
-- Assumes nothing.
use Rattle.std.specs.Prelude.{◌≡◌, refl, true, ◌↔◌, ℕ, ◌+◌, ◌*◌, ◌-◌, ◌^◌, ◌≤◌, ◌<◌, drop}
use Rattle.std.proofs.Math.Path.{ap, sym}
use Rattle.std.proofs.Common.{◌∙◌, arith}
use Rattle.std.proofs.lemmas.Bool.{false≢true}
use mathlib.Core.List.{List, [], ◌∷◌, ◌++◌}
use Rattle.std.proofs.Math.ListN.{length, take, length-map}
use Rattle.laws.proofs.TestLaws.{run_says}
use Rattle.laws.specs.Checks.{passes}
use Rattle.laws.specs.Tests.{run}
use Rattle.laws.proofs.TableLaws.{take_listed}
use Rattle.buffer.specs.Patched.{patched}
use Rattle.buffer.specs.PatchedLaws.{part_inside}
use Rattle.buffer.specs.Writes.{written}
use Rattle.buffer.specs.WritesLaws.{written_append, length_written}
use Rattle.number.specs.Number.{number_at}
use Rattle.number.specs.NumberLaws.{number_at_inside}
use Rattle.address.specs.Address.{floor}
use Rattle.address.specs.Span.{span_no}
use Rattle.address.specs.declared.Span.{Span}
use Rattle.submission.specs.Layout.{bytes_of, layout_of, module_no, module_of}
use Rattle.submission.specs.declared.Module.{Module}
use Rattle.submission.specs.Format.{module_count, string_length, string_bytes}
use Rattle.submission.specs.FormatLaws.{layout_count, module_at, length-bytes_of}
use Rattle.submission.specs.RuleLaws.{string_inside}
use Rattle.memory_map.specs.declared.MemoryMap.{MemoryMap}
use Rattle.memory_map.specs.Map.{map_of}
use Rattle.memory_map.specs.Parse.{pairs_read}
use Rattle.memory_map.specs.PairsLaws.{parsed_good}
use Rattle.usable.specs.Usable.{address_space, is_usable}
use Rattle.usable.specs.Sizes.{mem_lower, mem_upper}
use Rattle.usable.specs.UsableAddress.{Stretch, Usable}
use Rattle.usable.proofs.UsableLaws.{usable_bytes, usable_is}
use Rattle.decision.specs.Lent.{Lent}
use Rattle.decision.specs.Read.{layout_in, kernel_in, line_in, block_length_in}
use Rattle.decision.specs.Decided.{plan_of}
use Rattle.decision.specs.Decision.{checks, plan_in}
use Rattle.block.specs.Block.{mem_lower_offset, mem_upper_offset, cmdline_offset, mods_count_offset, mods_addr_offset, mmap_length_offset, mmap_addr_offset, boot_loader_name_offset, flags_offset, structure_size, module_entry_size, loader_name, texts_size, address_of, map_offset, name_offset, line_offset, strings_offset, structure_for, structure_of, string_lengths, block_of, block_length, flags_of, BootModule}
use Rattle.block.specs.TextLaws.{size_some, address_some, length-string_lengths, block_length_lem, flags_some, address_none}
use Rattle.block.specs.Reading.{length_of, BlockSmall, FieldsRead, EntryRead, boot_module_no, string_offset, string_address, lengths_of}
use Rattle.block.specs.BlockLaws.{length_block, map_stands, name_stands, line_stands, string_stands, text_taken, texts_room, fields, word_zero, entry_reads}
use Rattle.block.specs.WritingLaws.{length_loaded, length_load, load_small, load_module, loaded_lengths}
use Rattle.loader.specs.Memory.{segment_writes, module_writes, contents_in, block_write, writes_of, memory_after}
use Rattle.loader.specs.LoadLaws.{Loads, span_inside, block_span}
use Rattle.loader.specs.WriteLaws.{spans_low, strings_in, room}
use Rattle.theorems.proofs.SizeLaws.{line_known, strings_size_lem}
use Rattle.theorems.specs.Promises.{string_place, word_at, bytes_from, ReadBack}

lower_small : (m : MemoryMap) → mem_lower m < 2 ^ 32
unfolding mem_lower
lower_small m = omega arith

upper_small : (m : MemoryMap) → mem_upper m < 2 ^ 32
unfolding mem_upper
upper_small m = omega (arith, (run_says (is_usable m) floor (address_space - floor)).low)

module _ (x : Lent) (h : Loads x) where
  small : BlockSmall (contents_in x)
  unfolding contents_in
  small = load_small x.submission (layout_in x) (plan_in x).modules x.map (line_in x) (plan_in x).block.start.0 _ _ ((plan_in x).block.start.0 - x.first) x.size (spans_low x h) (strings_in x h) (room x h) (lower_small _) (upper_small _)

  length_block_is : length (block_of (contents_in x)) ≡ block_length_in x
  unfolding contents_in
  length_block_is = length_load x.submission (layout_in x) (plan_in x).modules x.map (line_in x) _ _ _ (strings_in x h)

  modules_length : length (contents_in x).modules ≡ (layout_in x).count
  unfolding contents_in
  modules_length = length_loaded x.submission (layout_in x) (plan_in x).modules (layout_in x).count

  sizes_read : pairs_read x.map ≡ map_of x.map
  sizes_read = rw (parsed_good x.map h.passed.map) refl

  module _ (w : List ℕ) (n : length w ≡ x.size) (load : passes (checks x) ≡ true) where
    -- the block is the last write
    memory_last : memory_after x w ≡ patched (written w (segment_writes x ++ module_writes x)) ((plan_in x).block.start.0 - x.first) (block_of (contents_in x))
    unfolding memory_after writes_of block_write written
    memory_last = rw load (written_append w (segment_writes x ++ module_writes x) (block_write x ∷ []))

    -- it has room there
    inside : (plan_in x).block.start.0 - x.first + length (block_of (contents_in x)) ≤ length (written w (segment_writes x ++ module_writes x))
    inside = omega (arith, length_block_is, length_written w (segment_writes x ++ module_writes x), (room x h).inside)

    -- a word of the block is read back as it stands there
    read : (k : ℕ) → k + 4 ≤ block_length_in x → word_at x (plan_in x) (memory_after x w) k ≡ number_at 4 (block_of (contents_in x)) k
    unfolding plan_of
    read k l =
        ap (λ (m : List ℕ). number_at 4 m ((plan_in x).block.start.0 - x.first + k)) memory_last
        ∙ number_at_inside 4 (written w (segment_writes x ++ module_writes x)) ((plan_in x).block.start.0 - x.first) (block_of (contents_in x)) k (omega (arith, length_block_is)) inside

    -- so are n bytes from an address of the block on
    read_bytes : (a n : ℕ) → (plan_in x).block.start.0 ≤ a → a + n ≤ (plan_in x).block.start.0 + block_length_in x
        → bytes_from x (memory_after x w) a n ≡ take n (drop (a - (plan_in x).block.start.0) (block_of (contents_in x)))
    read_bytes a n l m =
        let s = span_inside x h ((kernel_in x).count + (layout_in x).count) (omega arith) in
        let b = ap (λ (t : Span). t.start.0) (block_span x h) in
        let e : a - x.first ≡ (plan_in x).block.start.0 - x.first + (a - (plan_in x).block.start.0) = omega (arith, s.low) in
        rw (e, memory_last)
        (part_inside n (a - (plan_in x).block.start.0) (written w (segment_writes x ++ module_writes x)) ((plan_in x).block.start.0 - x.first) (block_of (contents_in x)) (omega (arith, length_block_is)) inside)

    block_long : structure_size + module_entry_size * (layout_in x).count ≤ block_length_in x
    unfolding block_length
    block_long = omega (arith, length-string_lengths (layout_in x) (layout_in x).count)

    found : FieldsRead (block_of (contents_in x)) (structure_of (contents_in x))
    found = fields (contents_in x) small

    entry : (i : ℕ) → i < (layout_in x).count → EntryRead (block_of (contents_in x)) (structure_size + module_entry_size * i) (boot_module_no (contents_in x) i).start (boot_module_no (contents_in x) i).end (string_address (contents_in x) i)
    entry i l = entry_reads (contents_in x) small i (omega (arith, modules_length))

    module_is : (i : ℕ) → i < (layout_in x).count → ((boot_module_no (contents_in x) i).start ≡ (span_no (plan_in x).modules i).start.0) × ((boot_module_no (contents_in x) i).end ≡ (span_no (plan_in x).modules i).end.0)
    unfolding contents_in
    module_is i l =
        let e = load_module x.submission (layout_in x) (plan_in x).modules x.map (line_in x) (plan_in x).block.start.0 (mem_lower (pairs_read x.map)) (mem_upper (pairs_read x.map)) i l in
        (ap (λ (m : BootModule). m.start) e, ap (λ (m : BootModule). m.end) e)

    -- the length of the block, part by part
    block_parts : block_length_in x ≡ strings_offset (layout_in x).count (length x.map) (length (line_in x)) + texts_size (string_lengths (layout_in x) (layout_in x).count)
    block_parts = block_length_lem (layout_in x) (layout_in x).count (length x.map) (length (line_in x))

    map_read : bytes_from x (memory_after x w) (structure_of (contents_in x)).mmap_addr (length x.map) ≡ x.map
    unfolding contents_in structure_for
    map_read = read_bytes (structure_of (contents_in x)).mmap_addr (length x.map) (omega arith) (omega (arith, block_parts, modules_length)) ∙ map_stands (contents_in x)

    name_read : bytes_from x (memory_after x w) (structure_of (contents_in x)).boot_loader_name (length loader_name) ≡ loader_name
    unfolding contents_in structure_for
    name_read = read_bytes (structure_of (contents_in x)).boot_loader_name (length loader_name) (omega arith) (omega (arith, block_parts, modules_length)) ∙ name_stands (contents_in x)

    line_read : (length (line_in x) ≡ 0 → ⊥) → bytes_from x (memory_after x w) (structure_of (contents_in x)).cmdline (length (line_in x) + 1) ≡ line_in x ++ (0 ∷ [])
    unfolding contents_in structure_for
    line_read n =
        let a = address_some ((plan_in x).block.start.0 + line_offset (length (contents_in x).modules) (length x.map)) (length (line_in x)) n in
        read_bytes (structure_of (contents_in x)).cmdline (length (line_in x) + 1) (omega arith) (omega (arith, block_parts, modules_length, size_some (length (line_in x)) n))
        ∙ text_taken (block_of (contents_in x)) _ (line_in x) (line_stands (contents_in x) n)

    string_is : (i : ℕ) → i < (layout_in x).count → (boot_module_no (contents_in x) i).string ≡ bytes_of x.submission (module_no (layout_in x) i).string
    unfolding contents_in
    string_is i l = ap (λ (m : BootModule). m.string) (load_module x.submission (layout_in x) (plan_in x).modules x.map (line_in x) (plan_in x).block.start.0 (mem_lower (pairs_read x.map)) (mem_upper (pairs_read x.map)) i l)

    string_read : (i : ℕ) → i < (layout_in x).count → (length (bytes_of x.submission (module_no (layout_in x) i).string) ≡ 0 → ⊥) → bytes_from x (memory_after x w) (string_address (contents_in x) i) (length (bytes_of x.submission (module_no (layout_in x) i).string) + 1) ≡ bytes_of x.submission (module_no (layout_in x) i).string ++ (0 ∷ [])
    unfolding block_length contents_in
    string_read i l n =
        let c = contents_in x in
        let k : i < length c.modules = omega (arith, modules_length) in
        let s = string_is i l in
        let z : length (boot_module_no c i).string ≡ 0 → ⊥ = rw s n in
        let a = address_some (c.start + string_offset c i) (length (boot_module_no c i).string) z in
        let r = texts_room c.modules i k in
        rw (← s)
        (read_bytes (string_address c i) (length (boot_module_no c i).string + 1) (omega arith) (omega (arith, length_block c, length_block_is, length-map c.modules length_of, size_some (length (boot_module_no c i).string) z))
        ∙ text_taken (block_of c) _ (boot_module_no c i).string (string_stands c i k z))

    -- a string is as long as its entry says, and stands behind those before it
    string_length_lem : (i : ℕ) → i < (layout_in x).count → length (bytes_of x.submission (module_no (layout_in x) i).string) ≡ string_length x.submission i
    string_length_lem i l =
        let m : i < module_count x.submission = omega (arith, layout_count x.submission) in
        rw (module_at x.submission i m) (length-bytes_of x.submission (module_of x.submission i).string (string_inside x.submission h.passed.submission i m))

    string_place_lem : (i : ℕ) → i < (layout_in x).count → string_offset (contents_in x) i ≡ string_place x i
    unfolding contents_in string_lengths
    string_place_lem i l =
        let s = x.submission in
        let m : i < module_count s = omega (arith, layout_count s) in
        let t : take i (lengths_of (contents_in x)) ≡ string_lengths (layout_in x) i = rw (loaded_lengths s (layout_in x) (plan_in x).modules (layout_in x).count (strings_in x h).within) (take_listed (λ j. (module_no (layout_in x) j).string.len) (layout_in x).count i (omega arith)) in
        rw (t, modules_length, line_known x h.passed, layout_count s, strings_size_lem s i (omega arith)) (omega arith)

    -- the address of a string, or 0
    string_word : (i : ℕ) → i < (layout_in x).count → word_at x (plan_in x) (memory_after x w) (structure_size + module_entry_size * i + 8) ≡ address_of ((plan_in x).ebx + string_place x i) (string_length x.submission i)
    unfolding plan_of contents_in
    string_word i l =
        read (structure_size + module_entry_size * i + 8) (omega (arith, block_long))
        ∙ (entry i l).string_word
        ∙ ap (λ (n : ℕ). address_of ((plan_in x).block.start.0 + string_offset (contents_in x) i) n) (ap length (string_is i l) ∙ string_length_lem i l)
        ∙ ap (λ (n : ℕ). address_of ((plan_in x).block.start.0 + n) (string_length x.submission i)) (string_place_lem i l)

    string_found : (i : ℕ) → i < (layout_in x).count → (string_length x.submission i ≡ 0 → ⊥)
        → bytes_from x (memory_after x w) (word_at x (plan_in x) (memory_after x w) (structure_size + module_entry_size * i + 8)) (string_length x.submission i + 1) ≡ string_bytes x.submission i ++ (0 ∷ [])
    unfolding plan_of contents_in
    string_found i l e =
        let v = memory_after x w in
        let n = string_length_lem i l in
        let m : i < module_count x.submission = omega (arith, layout_count x.submission) in
        ap (λ (a : ℕ). bytes_from x v a (string_length x.submission i + 1)) (read (structure_size + module_entry_size * i + 8) (omega (arith, block_long)) ∙ (entry i l).string_word)
        ∙ ap (λ (k : ℕ). bytes_from x v (string_address (contents_in x) i) (k + 1)) (sym n)
        ∙ string_read i l (λ z. e (sym n ∙ z))
        ∙ ap (λ (k : Module). bytes_of x.submission k.string ++ (0 ∷ [])) (module_at x.submission i m)

    -- usable addresses in a row, by the bytes of the map
    row : (a : ℕ) → a ≤ address_space → Stretch x.map a (run (is_usable (map_of x.map)) a (address_space - a))
    row a l =
        let f = is_usable (map_of x.map) in
        let r = run_says f a (address_space - a) in
        let is : (y : ℕ) → (f y ≡ true) ↔ Usable x.map y = λ y. (λ e. (usable_bytes x.map y).0 ((usable_is (map_of x.map) y).0 e), λ u. (usable_is (map_of x.map) y).1 ((usable_bytes x.map y).1 u)) in
        record {
          usable = λ y u v. (is y).0 (r.passed y u v);
          ends = λ u. false≢true (sym (r.next (omega (arith, u.below))) ∙ (is (a + run f a (address_space - a))).1 u);
        }

    pub read_back : ReadBack x (plan_in x) (memory_after x w)
    unfolding plan_of contents_in structure_for layout_of mem_lower mem_upper
    read_back =
        let s = x.submission in
        let b = block_long in
        let c = modules_length in
        let n = line_known x h.passed in
        record {
          flags = λ e. read flags_offset (omega arith) ∙ found.flags ∙ ap flags_of (ap length n ∙ e);
          flags_line = λ e. read flags_offset (omega arith) ∙ found.flags ∙ sym (flags_some (length (line_in x)) (λ z. e (ap length (sym n) ∙ z)));
          lower = run (is_usable (map_of x.map)) 0 address_space;
          lower_row = row 0 (omega arith);
          lower_word = read mem_lower_offset (omega arith) ∙ found.mem_lower ∙ ap mem_lower sizes_read;
          upper = run (is_usable (map_of x.map)) floor (address_space - floor);
          upper_row = row floor (omega arith);
          upper_word = read mem_upper_offset (omega arith) ∙ found.mem_upper ∙ ap mem_upper sizes_read;
          cmdline = λ e. read cmdline_offset (omega arith) ∙ found.cmdline ∙ sym (address_none _ (length (line_in x)) (ap length n ∙ e));
          cmdline_line = λ e. read cmdline_offset (omega arith) ∙ found.cmdline ∙ sym (address_some _ (length (line_in x)) (λ z. e (ap length (sym n) ∙ z))) ∙ omega arith;
          mods_count = read mods_count_offset (omega arith) ∙ found.mods_count ∙ modules_length;
          mods_addr = read mods_addr_offset (omega arith) ∙ found.mods_addr;
          mmap_length = read mmap_length_offset (omega arith) ∙ found.mmap_length;
          mmap_addr = read mmap_addr_offset (omega arith) ∙ found.mmap_addr ∙ ap (λ (j : ℕ). (plan_in x).ebx + map_offset j) modules_length;
          boot_loader_name = read boot_loader_name_offset (omega arith) ∙ found.boot_loader_name ∙ ap (λ (j : ℕ). (plan_in x).ebx + name_offset j (length x.map)) modules_length;
          zeros = λ j l m. read (4 * j) (omega arith) ∙ word_zero (contents_in x) j l m;
          starts = λ i l. read (structure_size + module_entry_size * i) (omega arith) ∙ (entry i l).start_word ∙ (module_is i l).0;
          ends = λ i l. read (structure_size + module_entry_size * i + 4) (omega arith) ∙ (entry i l).end_word ∙ (module_is i l).1;
          no_string = λ i l e. string_word i l ∙ sym (address_none _ (string_length s i) e);
          string = λ i l e. string_word i l ∙ sym (address_some _ (string_length s i) e);
          reserved = λ i l. read (structure_size + module_entry_size * i + 12) (omega arith) ∙ (entry i l).zero_word;
          map_bytes = rw (read mmap_addr_offset (omega arith) ∙ found.mmap_addr) map_read;
          name_bytes = rw (read boot_loader_name_offset (omega arith) ∙ found.boot_loader_name) name_read;
          line_bytes = λ e. rw (read cmdline_offset (omega arith) ∙ found.cmdline, ← n) (line_read (λ z. e (ap length (sym n) ∙ z)));
          string_bytes = string_found;
        }
