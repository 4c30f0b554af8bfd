mod Rulers
