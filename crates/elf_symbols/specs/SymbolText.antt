-- The text that shows a symbol's binding and type.
use Rattle.std.specs.Prelude.{ℕ, ◌==◌, List, ◌++◌, codes, if◌then◌else◌}
use Rattle.elf_format.specs.Bytes.{get}
use Rattle.elf_format.specs.Class.{Class, st_shndx}
use Rattle.elf_format.specs.SectionIndex.{shn_undef}
use Rattle.elf_symbols.specs.SymbolTests.{symbol_binding, symbol_type, stb_local, stb_weak, stt_notype, stt_object, stt_func, stt_section, stt_file, stt_common, stt_tls, stt_gnu_ifunc}

-- the word for a binding: each binding that is neither local nor weak is global
abbrev pub binding_text : ℕ → List ℕ
binding_text binding = if binding == stb_local then codes "Local" else if binding == stb_weak then codes "Weak" else codes "Global"

-- the word for a symbol type
abbrev pub type_text : ℕ → List ℕ
type_text type =
    if type == stt_notype then codes "NoType"
    else if type == stt_object then codes "Data"
    else if type == stt_func then codes "Func"
    else if type == stt_section then codes "Section"
    else if type == stt_file then codes "File"
    else if type == stt_common then codes "Common"
    else if type == stt_tls then codes "Tls"
    else if type == stt_gnu_ifunc then codes "IFunc"
    else codes "Unknown"

-- the word for the type of a symbol, which may be undefined
abbrev pub kind_text : Class → List ℕ → List ℕ
kind_text class entry = if get (st_shndx class) entry == shn_undef then codes "Undefined" else type_text (symbol_type class entry)

-- binding, space, type
abbrev pub symbol_text : Class → List ℕ → List ℕ
symbol_text class entry = binding_text (symbol_binding class entry) ++ codes " " ++ kind_text class entry
